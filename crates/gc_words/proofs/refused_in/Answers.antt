use mathlib.Core.Path.{ap, ◌∙◌}
use lib.ListN.{length}
use Rattle.rules.specs.Condition1.{condition_one}
use Rattle.gc_words.proofs.refused_in.Goals as goal

pub returns : goal.returns
returns c =
    let a = c.args in
    c.refused_apart.ensures.answers c.state_in-was.result.files c.bad_files-bad.ensures
    ∙ ap (condition_one a.settings (length a.heap.now) a.table.now) (c.rest_of.ensures ∙ c.state_in-was.ensures)
