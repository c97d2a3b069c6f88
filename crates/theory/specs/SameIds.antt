-- How long a table gets goes by the ids alone.
use Rattle.std.specs.Prelude.{◌≡◌, ◌∷◌}
use Rattle.rules.specs.Base.{List, []}
use Rattle.theory.specs.Types.{Entry}
use Rattle.rules.proofs.BaseLaws.{order}

-- the same ids in the same order
abbrev pub SameIds : List Entry → List Entry → Type 0
SameIds [] [] = Unit {0}
SameIds [] (d ∷ u) = ⊥
SameIds (e ∷ t) [] = ⊥
SameIds (e ∷ t) (d ∷ u) = (e.id ≡ d.id) × SameIds t u
