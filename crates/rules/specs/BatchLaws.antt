-- The batch: its ids have 64 bits, and the count that bounds the definition never cuts a batch short.
use Rattle.std.specs.Prelude.{◌<◌, ◌-◌, ◌^◌}
use Rattle.rules.specs.Base.{ℕ}
use Rattle.rules.specs.Ops.{Op}

-- so does an operation's id, and what follows the operation stands later
pub record Stepped (at : ℕ) (o : Op) (next : ℕ) : Type 0 where
  pub id : o.id < 2 ^ 64
  pub later : at < next
