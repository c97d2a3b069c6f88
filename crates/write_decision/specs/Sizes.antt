-- What the operations that count come to.
use Rattle.std.specs.Prelude.{◌+◌, Option, Some, None}
use Rattle.rules.specs.Base.{List, ℕ, length, ltb, pick}
use Rattle.rules.specs.declared.Entry.{Entry}
use Rattle.rules.specs.Ops.{Op, objects_of, file_bytes}
use Rattle.table_merge.specs.NewIds.{new_ids}
use Rattle.write_decision.specs.NewIds.{ids_of}
use Rattle.write_decision.specs.declared.BatchSizes.{BatchSizes}

-- "4 64 + file_size > S"; else the count of operations, T, and the ids that a table does not have
unfoldable pub sizes_of : ℕ → List Entry → List Op → Option BatchSizes
sizes_of slot_size table ops =
    pick (ltb slot_size (64 + length (file_bytes ops))) None (Some (record { count = length ops; total = length (objects_of ops); new = new_ids table (ids_of ops) }))
