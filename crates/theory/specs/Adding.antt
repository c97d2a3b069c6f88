-- A file of operations added to a store in bytes: the invariant holds again.
use Rattle.std.specs.Prelude.{◌≡◌, ◌⊎◌, ◌<◌, ◌≤◌, ◌+◌, ◌-◌, ◌^◌}
use Rattle.rules.specs.Base.{List, ℕ, length}
use Rattle.rules.specs.Ops.{Op, objects_of, file_bytes}
use Rattle.rules.specs.OpsLaws.{RisingOps, IdsFit}
use Rattle.rules.specs.Table.{insert_all}
use Rattle.rules.specs.Layout.{capacity_of}
use Rattle.rules.specs.Install.{new_lsn, empty_of}
use Rattle.rules.specs.World.{World, mappings}
use Rattle.theory.specs.Losing.{rows_for}

-- 4, 5, 6 and 7 do not refuse a file of these operations; bit: the batch bit or none
pub record Fitting (bit g : ℕ) (w : World) (os : List Op) : Type 0 where
  pub some : 0 < length os
  pub rising : RisingOps 0 os
  pub ids : IdsFit os
  pub kind : (bit ≡ 0) ⊎ (bit ≡ 2 ^ 62)
  pub aged : g ≤ 255
  pub slot : 64 + length (file_bytes os) ≤ w.settings.slot_bytes
  pub free : 0 < empty_of w
  pub room : length (insert_all (mappings w) (rows_for (new_lsn bit w) 0 os)) ≤ capacity_of w.table
  pub positions : w.state.next_position + (length (objects_of os) + 1) ≤ 2 ^ 62
