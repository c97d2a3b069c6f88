-- "Each id maps to its entry of greatest masked position": what `latest_of` holds.
use Rattle.std.specs.Prelude.{◌≤◌, None, Some}
use Rattle.rules.specs.Base.{ℕ, ltb, eqb, pick}
use Rattle.theory.specs.Types.{Entry, Held}
use Rattle.disk_location.specs.Locations.{masked_of, position_of}

-- a location's masked position
abbrev pub masked_at : ℕ → ℕ
masked_at l = masked_of (position_of l)

-- what is held is the greatest, by masked position, of the locations that are candidates; unmapped where there is none
abbrev pub Newest : (ℕ → Type 0) → Held → Type 0
Newest P None = (l : ℕ) → P l → ⊥
Newest P (Some l) = P l × ((m : ℕ) → P m → masked_at m ≤ masked_at l)

-- ---- one entry
-- a location beside the one held: "of two of one id the later stays"
abbrev pub later : Held → ℕ → Held
later None l = Some l
later (Some k) l = pick (ltb (masked_at k) (masked_at l)) (Some l) (Some k)

-- what one entry makes of an id's location
abbrev pub held_with : Held → Entry → ℕ → Held
held_with o e x = pick (eqb e.id x) (later o e.location) o
