use mathlib.Core.Path.{ap, ◌∙◌}
use Rattle.rules.specs.Condition1.{condition_one}
use Rattle.limits.proofs.refused.Goals as goal

pub returns : goal.returns
returns c =
    let a = c.args in
    c.refused_apart.ensures.answers a.state.files c.bad_files-bad.ensures ∙ ap (condition_one a.s a.heap a.table.now) c.rest_of.ensures
