-- The nightly job, plan, rewrite 1, 2 and 3, prune, gives what the old call gives, on any store of the invariant: answer, table, records, next position and heap.
use Rattle.std.specs.Prelude.{◌≡◌, ◌∷◌}
use Rattle.rules.specs.Base.{List, [], ℕ}
use Rattle.rules.specs.BaseLaws.{All}

-- no generation comes twice
abbrev pub Apart : List ℕ → Type 0
Apart [] = Unit {0}
Apart (g ∷ gs) = All (λ (h : ℕ). h ≡ g → ⊥) gs × Apart gs
