use mathlib.Core.Path.{ap}
use native.Mathlib.Omega.{arith}
use lib.ListN.{length}
use Rattle.gc_candidates.specs.Plan.{planned-here, planned-next, planned-start, planned-end}
use Rattle.gc_candidates.proofs.group_count.Goals as goal
use Rattle.gc_candidates.proofs.group_count.Goals.{then-number-generation, else-number-generation}

pub loop-number-init : goal.loop-number-init
loop-number-init c = (omega arith, omega (arith, ap length (planned-start c.args.plan.now c.args.generation)))

pub loop-number-preserved : goal.loop-number-preserved
loop-number-preserved c =
    let a = c.args in
    let k = c.loop-number.number-index in
    elim c.if-number-generation.branch [
      | then-number-generation w ↦ (omega arith, omega (arith, ap length (planned-here a.plan.now a.generation k (omega arith) w.if-number-generation.true)))
      | else-number-generation w ↦ (omega arith, omega (arith, ap length (planned-next a.plan.now a.generation k (omega arith) w.if-number-generation.false)))
    ]

pub returns : goal.returns
returns c =
    let a = c.args in
    omega (arith, c.loop-number.invariant.1, ap length (planned-end a.plan.now a.generation c.loop-number.number-index (omega arith)))
