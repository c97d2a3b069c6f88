use mathlib.Core.Path.{◌≡◌, ap, ◌∙◌}
use Prim.Native.Nat.{ℕ, ◌+◌, ◌-◌}
use native.Mathlib.Omega.{arith}
use lib.ListN.{length, take, drop, length-drop}
use lib.Seq.{length-take-le}
use Rattle.rules.specs.Base.{padded}
use Rattle.rules.specs.TwoCalls.{counted}
use Rattle.gc_candidates.specs.Plan.{planned}
use Rattle.plan_words.specs.PlanWords.{group_words}
use Rattle.plan_words.proofs.Placing.{part_filled, group-length}
use Rattle.plan_words.proofs.put_group_at.Goals as goal

pub returns : goal.returns
unfolding group_words
returns c =
    let a = c.args in
    let slots = planned a.slots.now a.generation in
    let k = a.at + 257 - a.at in
    let long : length (take k (drop a.at a.words.now)) ≡ 257 =
    length-take-le k (drop a.at a.words.now) (omega (arith, length-drop a.at a.words.now, c.requires.at_in_bounds)) ∙ omega arith in
    let fits : length (group_words slots) ≡ k = group-length a.slots.now a.generation c.requires.slots_len ∙ omega arith in
    part_filled a.words.now _ (group_words slots) a.at k fits (c.put_group.ensures ∙ ap (λ (m : ℕ). padded m (counted slots)) long)
