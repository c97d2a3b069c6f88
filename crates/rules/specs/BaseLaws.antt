-- Laws of tests and lists: no word of the paper is here.
use Rattle.std.specs.Prelude.{◌⊎◌, ◌∷◌, ◌-◌}
use Rattle.rules.specs.Base.{List, []}

-- ---- lists
-- every element is such
abbrev pub All : {A : Type 0} → (A → Type 0) → List A → Type 0
All P [] = Unit {0}
All P (x ∷ xs) = P x × All P xs

-- some element is such
abbrev pub Some : {A : Type 0} → (A → Type 0) → List A → Type 0
Some P [] = ⊥
Some P (x ∷ xs) = P x ⊎ Some P xs
