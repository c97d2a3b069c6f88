use Rattle.std.specs.Prelude.{Ok}
use Rattle.std.proofs.lemmas.Result.{err_from_is_err_and}
use mathlib.Core.Path.{sym, ap, ◌∙◌}
use Rattle.rules.specs.SlotFile.{view_in}
use Rattle.faults.specs.Judging.{file-shown, judged-empty, judged-damaged}
use Rattle.faults.proofs.own.Goals as goal

pub rising-requires : goal.rising-requires
rising-requires c = file-shown _ _ (sym c.check.ensures ∙ c.in_ok-l.was ∙ ap Ok c.in-Some.is)

pub returns-in-None : goal.returns-in-None
returns-in-None c = sym (judged-empty (view_in c.args.slot.now) (sym c.check.ensures ∙ c.in_ok-l.was ∙ ap Ok c.in-None.is))

pub returns-in_err-l : goal.returns-in_err-l
returns-in_err-l c =
    let p = err_from_is_err_and c.from_residual.result c.from_residual.ensures.1 in
    rw (p.1, p.2) (sym (judged-damaged (view_in c.args.slot.now) _ (sym c.check.ensures ∙ c.in_err-l.was)))
