use mathlib.Core.Path.{ap, ◌∙◌}
use Rattle.rules.specs.World.{World, world, maintain_given, leaving}
use Rattle.gc_course.specs.RunLaws.{finish-run}
use Rattle.gc_nightly.proofs.finish.Goals as goal

pub pruned-after-requires : goal.pruned-after-requires
pruned-after-requires c =
    λ _. rw c.state_in-was.ensures c.requires

pub returns : goal.returns
returns c =
    let a = c.args in
    rw (c.put_state.ensures, ← c.state_in-was.ensures)
    (λ table clear.
    ap (λ (w : World). leaving (maintain_given a.answer) w) (c.pruned-after.ensures table)
    ∙ finish-run a.answer (world a.settings c.state_in-was.result a.claims a.heap.now table) clear c.is_prune_due.result c.is_prune_due.ensures)
