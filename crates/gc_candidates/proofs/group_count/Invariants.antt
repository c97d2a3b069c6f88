use Prim.Native.Nat.{◌+◌, ◌≤◌}
use mathlib.Core.Path.{◌≡◌}
use lib.ListN.{length, drop}
use Rattle.gc_candidates.specs.Plan.{planned, planned_from}
use Rattle.gc_candidates.proofs.group_count.Given as goal

abbrev pub invariant-loop-number : goal.invariant-loop-number
invariant-loop-number l = (l.n ≤ l.number-index) × (length (planned l.plan l.generation) ≡ l.n + length (planned_from l.number-index (drop l.number-index l.plan) l.generation))
