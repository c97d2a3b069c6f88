use mathlib.Core.Path.{◌≡◌, refl}
use borrow.Author.Rules.{rules}
use lib.ListN.{length}
use Rattle.gc_candidates.specs.Plan.{planned}
use Rattle.plan_words.specs.PlanWords.{head_words, group_words, plan_words}
use Rattle.plan_words.proofs.Placing.{group-length, all_placed}
use Rattle.plan_words.proofs.put_plan.Goals as goal

pub returns : goal.returns
unfolding plan_words
returns c =
    let p = c.args.p in
    let slots : length p.slots ≡ 256 = search rules in
    rw (c.put_group_at-3.ensures, c.put_group_at-2.ensures, c.put_group_at.ensures, c.put_head.ensures)
    (all_placed c.args.words.now (head_words p.mark p.count p.files p.bytes p.foretold) (group_words (planned p.slots 1)) (group_words (planned p.slots 2)) (group_words (planned p.slots 3))
    c.requires refl (group-length p.slots 1 slots) (group-length p.slots 2 slots) (group-length p.slots 3 slots))
