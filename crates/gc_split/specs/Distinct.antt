-- Lists in which no number stands twice.
use Rattle.std.specs.Prelude.{◌≡◌, ◌∷◌}
use Rattle.rules.specs.Base.{List, [], ℕ}
use Rattle.rules.specs.BaseLaws.{All}

-- a number that none of a list is
abbrev pub Other : List ℕ → ℕ → Type 0
Other ys x = All (λ (y : ℕ). x ≡ y → ⊥) ys

-- no number twice
abbrev pub Distinct : List ℕ → Type 0
Distinct [] = Unit {0}
Distinct (x ∷ xs) = Other xs x × Distinct xs
