use mathlib.Core.Path.{ap, ◌∙◌}
use Rattle.desk.specs.Desk.{Desk}
use Rattle.desk.specs.Commands.{salvage_by, salvage_on}
use Rattle.desk.proofs.Lending.{lent-parts, lending-heap}
use Rattle.desk.proofs.salvaged.Goals as goal

pub returns : goal.returns
returns c =
    let a = c.args in
    let parts =
    lent-parts a.b a.heap.now a.table.now c.least-h.result c.least-t.result
    c.least-h.ensures.answers c.least-t.ensures.answers in record {
      leaves = lending-heap salvage_by a.b a.heap.now a.table.now c.least-h.result c.least-t.result
          c.salvage.result _ c.least-h.ensures.answers c.least-t.ensures.answers c.salvage.ensures.leaves;
      reports = c.salvage.ensures.reports ∙ ap (λ (x : Desk). (salvage_on x a.report.now).report) parts;
    }
