-- Request P5: the order of the lines, and which are a slot's.
use Rattle.std.proofs.Math.Path.{◌≡◌}
use Rattle.std.specs.Prelude.{◌≤◌, ◌∷◌}
use Rattle.rules.specs.Base.{List, [], ℕ, eqb, keep}
use Rattle.faults.specs.Faults.{line}
use Rattle.check_theory.specs.Types.{Fault}

-- ---- every line of a slot has its number
-- a line of slot k
abbrev pub OfSlot : ℕ → Fault → Type 0
OfSlot k x = x.slot ≡ k

-- ---- "ascending by slot"
-- no line is of a lower slot than n, nor than the line before it
abbrev pub Ascends : ℕ → List Fault → Type 0
Ascends n [] = Unit {0}
Ascends n (x ∷ xs) = (n ≤ x.slot) × Ascends x.slot xs

-- ---- the lines of one slot
-- those of slot k, in order
abbrev pub lines_of : ℕ → List Fault → List Fault
lines_of k xs = keep (λ (x : Fault). eqb x.slot k) xs
