use Rattle.std.specs.Prelude.{None, Some}
use mathlib.Core.Path.{◌≡◌}
use Prim.Native.Nat.{ℕ, ◌-◌, ◌≤◌}
use lib.ListN.{length}
use Rattle.numbers.specs.Choice.{pick}
use Rattle.rules.specs.Batch.{batch_in, is_malformed}
use Rattle.through.specs.Through.{last_in}
use Rattle.through.proofs.LastTurns.{telling}
use Rattle.through.proofs.last_on.Given as goal

abbrev pub invariant-loop-at : goal.invariant-loop-at
invariant-loop-at l = (k : ℕ) × (length l.batch - l.at ≤ k) × (telling k l.batch l.id l.at l.last ≡ pick (is_malformed (batch_in l.batch)) None (Some (last_in l.batch l.id)))

abbrev pub decreases-loop-at : goal.decreases-loop-at
decreases-loop-at l = length l.batch - l.at
