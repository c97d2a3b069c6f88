-- A write on a store of the invariant: refused, nothing changes; accepted, the engine hears the batch.
use Rattle.std.specs.Prelude.{◌++◌}
use Rattle.rules.specs.Base.{List, ℕ, eqb, pick}
use Rattle.rules.specs.Refusal.{after}
use Rattle.rules.specs.Ops.{Op}
use Rattle.rules.specs.SettledLaws.{last, last_on}
use Rattle.rules.specs.Batch.{batch_in, ops_of}
use Rattle.rules.specs.World.{Given, accepted}
use Rattle.theory.specs.Picture.{Said, last_says}

-- what the plain engine says: the last operation on the id
abbrev pub engine : List Op → ℕ → Said
engine history x = last_says (last_on history x)

-- what it has heard after a write with this answer: the batch, if it was accepted
abbrev pub heard : List Op → List ℕ → Given → List Op
heard history bytes answer = pick (eqb answer.number 0) (history ++ ops_of (batch_in bytes)) history
