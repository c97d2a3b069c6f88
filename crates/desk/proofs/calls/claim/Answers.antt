use mathlib.Core.Path.{ap}
use Rattle.desk.specs.Desk.{plain, answered}
use Rattle.desk.proofs.calls.claim.Goals as goal

pub returns : goal.returns
returns c =
    let a = c.args in
    rw (c.answered.ensures, c.with_claims.ensures) (ap (answered plain a.b) c.claim-done.ensures)
