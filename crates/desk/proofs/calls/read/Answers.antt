use mathlib.Core.Path.{ap}
use Rattle.rules.specs.Types.{ReadAnswer}
use Rattle.rules.specs.Read.{read_call}
use Rattle.rules.specs.World.{read_given, leaving}
use Rattle.desk.specs.Desk.{desk, found, world_of, answered}
use Rattle.desk.proofs.calls.read.Goals as goal

pub returns : goal.returns
unfolding read_call
returns c =
    let a = c.args in
    let w = world_of (desk a.b a.heap.now a.table.now) in
    ap (λ (x : ReadAnswer). answered found a.b (leaving (read_given x) w)) (c.read_answer-answer.ensures a.b.claims)
