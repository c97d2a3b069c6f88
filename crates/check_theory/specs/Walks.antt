-- Request P5: which object of a walk can pass T, and where the lines stand in the lent listing.
use Rattle.std.specs.Prelude.{◌≡◌, ◌∷◌, ◌/◌}
use Rattle.rules.specs.Base.{true, List, [], ℕ, length, take}
use Rattle.rules.specs.Object.{Stored}
use Rattle.check_theory.specs.Types.{Fault}
use Rattle.faults.specs.Faults.{passes, listing}

-- ---- "one whose header or body passes T .. ends the walk"
-- what passes T is the last
abbrev pub OnlyLast : List Stored → Type 0
OnlyLast [] = Unit {0}
OnlyLast (o ∷ os) = (passes o ≡ true → os ≡ []) × OnlyLast os

-- ---- the lent listing
-- the lines that fit
abbrev pub fitting : List Fault → List ℕ → List Fault
fitting faults buffer = take (length buffer / 4) faults
