use Rattle.std.proofs.Common.{◌≤◌}
use Rattle.maintenance_cases.proofs.batches.make.Given as goal

abbrev pub invariant-loop-pair : goal.invariant-loop-pair
invariant-loop-pair l =
    (goal.iterator-loop-pair).can_next l.pair-iterator × (goal.iterator-loop-pair).is_finite l.pair-iterator × (l.end ≤ 2048)
