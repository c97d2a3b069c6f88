use Rattle.desk.specs.Desk.{located}
use Rattle.desk.proofs.Tables.{tabled}
use Rattle.desk.proofs.calls.load.Goals as goal

pub returns : goal.returns
returns c =
    let a = c.args in
    λ heap. tabled located a.b heap a.table.now c.load-answer.ensures
