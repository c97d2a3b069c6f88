use mathlib.Core.Path.{sym, ap, ap₂, ◌∙◌}
use borrow.Author.Tests.{not-true}
use lib.ListN.{length}
use Rattle.rules.specs.Types.{Answer}
use Rattle.rules.specs.Condition1.{condition_one}
use Rattle.rules.proofs.Condition1Laws.{passed}
use Rattle.rules.specs.World.{World, world, leaving, answer_given}
use Rattle.prune.specs.Labels.{passed-labels}
use Rattle.prune.specs.CallLaws.{prune-decided}
use Rattle.prune.proofs.prune.Goals as goal

-- ---- what 1 says
pub pruned-after-requires : goal.pruned-after-requires
pruned-after-requires c =
    let a = c.args in
    let one = c.refused_apart-refused.ensures.answers a.state.files c.bad_files-bad.ensures ∙ ap (condition_one a.settings (length a.heap.now) a.table.now) c.rest_of.ensures in
    let n = length a.heap.now in
    let b = a.table.now in
    λ e. passed-labels a.settings n b a.state (passed a.settings n b a.state (sym (one) ∙ not-true _ e))

pub returns : goal.returns
returns c =
    let a = c.args in
    let one = c.refused_apart-refused.ensures.answers a.state.files c.bad_files-bad.ensures ∙ ap (condition_one a.settings (length a.heap.now) a.table.now) c.rest_of.ensures in
    ap₂ (λ (x : Answer) (w : World). leaving (answer_given x) w) c.answer.ensures (c.pruned-after.ensures a.table.now)
    ∙ prune-decided (world a.settings a.state a.claims a.heap.now a.table.now) c.refused_apart-refused.result one
