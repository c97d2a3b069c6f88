use mathlib.Core.Path.{ap}
use Rattle.desk.specs.Desk.{plain, answered}
use Rattle.desk.proofs.calls.write.Goals as goal

pub returns : goal.returns
returns c =
    let a = c.args in
    rw (c.answered.ensures, c.with_state.ensures) (ap (answered plain a.b) (c.write-done.ensures a.b.claims))
