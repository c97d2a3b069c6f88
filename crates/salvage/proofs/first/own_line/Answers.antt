use mathlib.Core.Path.{sym, ap}
use Rattle.losses.specs.Lines.{loss_shown, reports-none, reports-as}
use Rattle.salvage.proofs.first.own_line.Goals as goal

pub returns-in-Err : goal.returns-in-Err
returns-in-Err c =
    let a = c.args in
    reports-as (ap (loss_shown a.slot) (sym c.in-Err.is)) c.note.ensures

pub returns-in-Ok : goal.returns-in-Ok
returns-in-Ok c =
    let a = c.args in
    reports-as (ap (loss_shown a.slot) (sym c.in-Ok.is)) (reports-none a.count a.report.now)
