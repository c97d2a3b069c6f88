-- The size of an operation.
use Rattle.std.specs.Prelude.{ℕ, ◌+◌}
use Rattle.numbers.specs.Choice.{pick}
use Rattle.batch.specs.declared.Operation.{Operation}

-- "an object adds 20 + length, a delete 0", by the numbers
abbrev pub size_in : Operation → ℕ
size_in o = pick o.delete 0 (20 + o.len)
