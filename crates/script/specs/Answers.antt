-- A decimal number of 64 bits, or none.
use Rattle.std.specs.Prelude.{ℕ, Option}

abbrev pub Parsed : Type 0
Parsed = Option ℕ
