use Rattle.desk.specs.Desk.{plain}
use Rattle.desk.proofs.Tables.{tabled}
use Rattle.desk.proofs.calls.store.Goals as goal

pub returns : goal.returns
returns c =
    let a = c.args in
    λ heap. rw c.answered.ensures (tabled plain a.b heap a.table.now c.store.ensures)
