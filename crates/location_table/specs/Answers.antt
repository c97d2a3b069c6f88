-- Where an id stands in the table, or else where it goes.
use Rattle.std.specs.Prelude.{ℕ, Result}

abbrev pub Place : Type 0
Place = Result ℕ ℕ
