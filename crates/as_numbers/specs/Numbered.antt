-- An answer with no values, by its number alone: 0, or a refusal's.
use Rattle.std.specs.Prelude.{ℕ, []}
use Rattle.rules.specs.World.{Given}

-- what a call that gives nothing but its success answers
abbrev pub numbered : ℕ → Given
numbered n = record { number = n; values = [] }
