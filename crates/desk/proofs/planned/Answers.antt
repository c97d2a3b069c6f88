use mathlib.Core.Path.{ap, ◌∙◌}
use Rattle.desk.specs.Commands.{plan_by, plan_on}
use Rattle.desk.proofs.Lending.{lent-parts, lending-none}
use Rattle.desk.proofs.planned.Goals as goal

pub returns : goal.returns
returns c =
    let a = c.args in
    let parts =
    lent-parts a.b a.heap.now a.table.now c.least-h.result c.least-t.result
    c.least-h.ensures.answers c.least-t.ensures.answers in record {
      leaves = lending-none plan_by a.b a.heap.now a.table.now c.least-h.result c.least-t.result
          c.plan.result c.least-h.ensures.answers c.least-t.ensures.answers c.plan.ensures.leaves;
      gives = c.plan.ensures.gives ∙ ap plan_on parts;
    }
