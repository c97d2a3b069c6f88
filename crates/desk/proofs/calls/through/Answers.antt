use mathlib.Core.Path.{ap}
use Rattle.rules.specs.World.{leaving}
use Rattle.through.specs.Answers.{ThroughAnswer}
use Rattle.through.specs.Through.{through_given, through_call}
use Rattle.desk.specs.Desk.{desk, pieced, world_of, answered}
use Rattle.desk.proofs.calls.through.Goals as goal

pub returns : goal.returns
unfolding through_call
returns c =
    let a = c.args in
    let w = world_of (desk a.b a.heap.now a.table.now) in
    ap (λ (x : ThroughAnswer). answered pieced a.b (leaving (through_given x) w)) (c.through_answer-answer.ensures a.b.claims)
