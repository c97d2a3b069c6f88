use Rattle.desk.specs.Desk.{compared}
use Rattle.desk.proofs.Tables.{tabled}
use Rattle.desk.proofs.calls.cas.Goals as goal

pub returns : goal.returns
returns c =
    let a = c.args in
    λ heap. tabled compared a.b heap a.table.now c.compare_and_store-answer.ensures
