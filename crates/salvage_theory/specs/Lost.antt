-- Request P9: what stands in the slot of a line of the report.
use Rattle.std.specs.Prelude.{◌≡◌, ◌⊎◌}
use Rattle.rules.specs.Base.{List}
use Rattle.rules.specs.SlotFile.{File, View, damaged, holds}
use Rattle.theory.specs.Types.{Overlap}
use Rattle.theory.specs.Places.{view_at}
use Rattle.salvage_theory.specs.Types.{Loss}

-- "the first in that order or 14 for the second kind": the slot's own fault, or 14 of a slot with a sound file
abbrev pub Lost : List View → Loss → Type 0
Lost views x = (view_at views x.slot ≡ damaged x.refusal) ⊎ ((x.refusal ≡ Overlap) × ((f : File) × (view_at views x.slot ≡ holds f)))
