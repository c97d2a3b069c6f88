-- What a number in groups says: the number and the position after it, or nothing.
use Rattle.std.specs.Prelude.{ℕ, Option}

abbrev pub Number : Type 0
Number = Option (ℕ × ℕ)
