-- What an accepted write knows.
use Rattle.std.specs.Prelude.{◌≡◌, ◌≤◌, ◌<◌, ◌+◌, ◌^◌}
use Rattle.rules.specs.Base.{false, List, ℕ, length}
use Rattle.rules.specs.Ops.{Op, objects_of, entries_of, file_bytes, settled}
use Rattle.rules.specs.Batch.{batch_in, is_malformed, ops_of, any_too_large}
use Rattle.rules.specs.Table.{insert_all}
use Rattle.rules.specs.Layout.{capacity_of}
use Rattle.rules.specs.Condition1.{refused1}
use Rattle.rules.specs.Install.{empty_of}
use Rattle.rules.specs.World.{World, mappings}

-- the operations of a batch that count
abbrev pub ops_in : List ℕ → List Op
ops_in bytes = settled (ops_of (batch_in bytes))

-- none of 1 to 7 holds
pub record Accepted (w : World) (bytes : List ℕ) : Type 0 where
  pub passed : refused1 w ≡ false
  pub parsed : is_malformed (batch_in bytes) ≡ false
  pub small : any_too_large w.settings.max_object_size (ops_of (batch_in bytes)) ≡ false
  pub fits : 0 < length (ops_in bytes) → 64 + length (file_bytes (ops_in bytes)) ≤ w.settings.slot_bytes
  pub slot : 0 < length (ops_in bytes) → 0 < empty_of w
  pub ids : length (insert_all (mappings w) (entries_of 0 (ops_in bytes))) ≤ capacity_of w.table
  pub last : 0 < length (ops_in bytes) → w.state.next_position + (length (objects_of (ops_in bytes)) + 1) ≤ 2 ^ 62
