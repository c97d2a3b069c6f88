-- The ids that a group moves are those mapped into its files: as many as the files' live counts say.
use Rattle.std.specs.Prelude.{◌≡◌, Some}
use Rattle.rules.specs.Base.{true, List, ℕ}
use Rattle.theory.specs.Types.{Entry, Label}
use Rattle.rules.specs.Ops.{Op}
use Rattle.rules.specs.Table.{lookup}
use Rattle.rules.specs.Maintenance.{found}
use Rattle.rules.specs.Reopen.{in_range}
use Rattle.theory.specs.Newest.{masked_at}

-- what is found in a file lies in its range
abbrev pub InRangeOf : List Entry → Label → Op → Type 0
InRangeOf table f o = (l : ℕ) → lookup table o.id ≡ Some l → in_range f (masked_at l) ≡ true
