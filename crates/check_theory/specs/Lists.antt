-- What holds of all elements of a list, and numbers that differ: no word of the paper is here.
use Rattle.std.specs.Prelude.{◌≡◌, ◌⊎◌, ◌∷◌}
use Rattle.rules.specs.Base.{List, [], ℕ, eqb, pick}
use Rattle.rules.specs.BaseLaws.{All}

-- ---- one element
-- it is in the list
abbrev pub In : {A : Type 0} → List A → A → Type 0
In [] x = ⊥
In (y ∷ ys) x = (y ≡ x) ⊎ In ys x

-- ---- numbers that differ
-- no two are the same
abbrev pub Different : List ℕ → Type 0
Different [] = Unit {0}
Different (x ∷ xs) = All (λ (y : ℕ). x ≡ y → ⊥) xs × Different xs

-- the first of this number left out
abbrev pub without : ℕ → List ℕ → List ℕ
without x [] = []
without x (y ∷ ys) = pick (eqb y x) ys (y ∷ without x ys)
