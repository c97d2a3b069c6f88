use mathlib.Core.Path.{ap, ap₂, ◌∙◌}
use Rattle.losses.specs.Salvage.{Salvaged}
use Rattle.desk.specs.Desk.{desk}
use Rattle.desk.specs.Commands.{rescued}
use Rattle.desk.specs.Reports.{report-apart}
use Rattle.desk.proofs.calls.salvage.Goals as goal

pub returns : goal.returns
returns c =
    let a = c.args in
    let d = desk a.b a.heap.now a.table.now in
    let done = c.salvage-answer.ensures in
    let apart = report-apart d a.report.now in record {
      leaves = ap₂ (rescued d) (ap (λ (x : Salvaged). x.answer) done ∙ apart.0) (ap (λ (x : Salvaged). x.heap) done ∙ apart.1);
      reports = ap (λ (x : Salvaged). x.report) done;
    }
