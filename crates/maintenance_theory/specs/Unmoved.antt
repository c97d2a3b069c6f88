-- A file outside a group keeps its record while the group is rewritten.
use Rattle.std.specs.Prelude.{◌≡◌, ◌-◌, Some}
use Rattle.rules.specs.Base.{false, ℕ}
use Rattle.rules.specs.Ops.{Op}
use Rattle.rules.specs.Table.{lookup}
use Rattle.rules.specs.FileMap.{record_at}
use Rattle.rules.specs.Reopen.{in_range}
use Rattle.rules.specs.World.{World, records_of, mappings}
use Rattle.theory.specs.Newest.{masked_at}

-- the id's location, if it has one, is not in slot k's file
abbrev pub Elsewhere : World → ℕ → Op → Type 0
Elsewhere w k o = (l : ℕ) → lookup (mappings w) o.id ≡ Some l → in_range (record_at (records_of w) k).label (masked_at l) ≡ false
