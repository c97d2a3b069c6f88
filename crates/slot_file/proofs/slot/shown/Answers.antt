use Rattle.std.proofs.lemmas.Result.{err_from_is_err_and}
use mathlib.Core.Path.{refl, sym, ◌∙◌}
use Rattle.slot_file.proofs.slot.shown.Goals as goal

pub returns : goal.returns
returns c = rw (sym c.check_file.ensures ∙ c.in_ok-check_file.was) refl

pub returns-in_err-check_file : goal.returns-in_err-check_file
returns-in_err-check_file c =
    let p = err_from_is_err_and c.from_residual.result c.from_residual.ensures.1 in
    rw (p.1, p.2, sym c.check_file.ensures ∙ c.in_err-check_file.was) refl
