use Rattle.desk.specs.Commands.{lent_by}
use Rattle.desk.proofs.Lending.{lending}
use Rattle.desk.proofs.lent.Goals as goal

pub returns : goal.returns
returns c =
    let a = c.args in
    lending (lent_by a.keyword a.n a.bytes.now) a.b a.heap.now a.table.now c.least-h.result c.least-t.result
    c.after_lent.result _ _ c.least-h.ensures.answers c.least-t.ensures.answers c.after_lent.ensures
