-- Counting ids: a settled list against a table, and the ids in some files' ranges file by file.
use Rattle.std.specs.Prelude.{◌≤◌, ◌∷◌}
use Rattle.rules.specs.Base.{Bool, true, false, List, [], ℕ, suc}
use Rattle.rules.specs.Ops.{Op}
use Rattle.rules.specs.SettledLaws.{Last, silent, last, last_on}

-- an operation on x is among these
abbrev pub known : Last → Bool
known silent = false
known (last c) = true

-- some operation of these is on x
abbrev pub heard_in : List Op → ℕ → Bool
heard_in os x = known (last_on os x)

-- ---- sums over slots
-- slots strictly rising
abbrev pub Ascending : ℕ → List ℕ → Type 0
Ascending i [] = Unit {0}
Ascending i (k ∷ ks) = (i ≤ k) × Ascending (suc k) ks
