use mathlib.Core.Path.{ap}
use Rattle.desk.specs.Desk.{counted, answered}
use Rattle.desk.proofs.calls.counts.Goals as goal

pub returns : goal.returns
returns c =
    let a = c.args in
    ap (answered counted a.b) (c.counts-answer.ensures a.b.claims)
