-- N: no store refuses every write: within the limits a write is accepted.
use Rattle.std.specs.Prelude.{◌≡◌, ◌<◌, ◌≤◌, ◌+◌, ◌^◌}
use Rattle.rules.specs.Base.{false, List, ℕ, length}
use Rattle.rules.specs.Ops.{objects_of, file_bytes}
use Rattle.rules.specs.Batch.{batch_in, is_malformed, ops_of, any_too_large}
use Rattle.rules.specs.Layout.{capacity_of}
use Rattle.rules.specs.Install.{empty_of}
use Rattle.rules.specs.WriteLaws.{ops_in}
use Rattle.rules.specs.World.{World, mappings}

-- a batch within the limits of a store: 2 to 7 do not hold
pub record Within (w : World) (bytes : List ℕ) : Type 0 where
  pub parsed : is_malformed (batch_in bytes) ≡ false
  pub small : any_too_large w.settings.max_object_size (ops_of (batch_in bytes)) ≡ false
  pub slot : 64 + length (file_bytes (ops_in bytes)) ≤ w.settings.slot_bytes
  pub free : 0 < empty_of w
  pub ids : length (mappings w) + length (ops_in bytes) ≤ capacity_of w.table
  pub positions : w.state.next_position + (length (objects_of (ops_in bytes)) + 1) ≤ 2 ^ 62
