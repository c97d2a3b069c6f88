use Rattle.desk.specs.Desk.{raised}
use Rattle.desk.proofs.Tables.{tabled}
use Rattle.desk.proofs.calls.max.Goals as goal

pub returns : goal.returns
returns c =
    let a = c.args in
    λ heap. tabled raised a.b heap a.table.now c.store_if_greater-answer.ensures
