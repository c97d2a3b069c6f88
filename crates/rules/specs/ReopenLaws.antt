-- "Each id maps to its entry of greatest masked position", entry by entry; and what 14 and 15 leave known.
use Rattle.std.specs.Prelude.{◌⊎◌, ◌<◌, ◌∷◌, ◌+◌, ◌-◌}
use Rattle.rules.specs.Base.{List, []}
use Rattle.rules.specs.Types.{Label}
use Rattle.disk_location.specs.Locations.{masked_of}
use Rattle.rules.specs.BaseLaws.{All}
use Rattle.rules.specs.SlotFile.{File}

-- ---- 14 and 15 do not hold
-- masked ranges that share no position
abbrev pub Disjoint : Label → Label → Type 0
Disjoint r s = (masked_of s.lsn + s.trailer_offset < masked_of r.lsn) ⊎ (masked_of r.lsn + r.trailer_offset < masked_of s.lsn)

-- every two files are so
abbrev pub Apart : List File → Type 0
Apart [] = Unit {0}
Apart (f ∷ fs) = All (λ (g : File). Disjoint f.label g.label) fs × Apart fs
