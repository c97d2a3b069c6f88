-- What stands at a position of a batch, and the next operation that counts.
use Rattle.std.specs.Prelude.{ℕ, Option}
use Rattle.batch.specs.declared.Operation.{Operation}
use Rattle.batch.specs.declared.Cursor.{Cursor}

-- an operation with the position behind it, or no operation
abbrev pub Parse : Type 0
Parse = Option (Operation × ℕ)

-- the next operation that counts and the walk behind it, or the end
abbrev pub Step : Type 0
Step = Option (Operation × Cursor)
