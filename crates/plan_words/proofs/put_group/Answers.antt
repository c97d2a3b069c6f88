use mathlib.Core.Path.{◌≡◌, refl, sym, ap, ◌∙◌, subst}
use Prim.Native.Nat.{ℕ, ◌+◌, ◌-◌}
use native.Mathlib.Omega.{arith}
use lib.ListN.{length, replicate, length-replicate}
use Rattle.rules.specs.Base.{padded}
use Rattle.rules.specs.TwoCalls.{counted}
use Rattle.gc_candidates.specs.Plan.{planned}
use Rattle.plan_words.proofs.GroupTurns.{Written, written_start, written-here, written_next, written-end}
use Rattle.plan_words.proofs.put_group.Goals as goal
use Rattle.plan_words.proofs.put_group.Goals.{then-taken-generation, else-taken-generation}

pub loop-i-init : goal.loop-i-init
loop-i-init c =
    let zeros : c.fill.new.self ≡ replicate (length c.args.words.now) 0 = c.fill.ensures.after (λ y e. e) in
    let long = c.fill.ensures.len in (
      omega arith,
      rw (zeros, length-replicate) (written_start c.args.slots.now c.args.generation (length c.args.words.now) (omega (arith, c.requires))),
    )

pub loop-i-preserved : goal.loop-i-preserved
loop-i-preserved c =
    let a = c.args in
    let inv = c.loop-i.invariant in
    elim c.if-taken-generation.branch [
      | then-taken-generation w ↦ (
        omega arith,
        rw (w.words-is, w.n-is) (written-here a.slots.now a.generation _ c.loop-i.n c.loop-i.i c.loop-i.words inv.1 (omega arith) w.if-taken-generation.true (omega (arith, c.fill.ensures.len, c.requires))),
      )
      | else-taken-generation w ↦ (
        omega arith,
        rw (w.words-is, w.n-is) (written_next a.slots.now a.generation _ c.loop-i.n c.loop-i.i c.loop-i.words inv.1 (omega arith) w.if-taken-generation.false),
      )
    ]

pub returns : goal.returns
returns c =
    let a = c.args in
    written-end a.slots.now a.generation _ c.loop-i.n c.loop-i.i c.loop-i.words c.loop-i.invariant.1 (omega arith)
    ∙ ap (λ (m : ℕ). padded m (counted (planned a.slots.now a.generation))) c.fill.ensures.len
