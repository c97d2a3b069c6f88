use mathlib.Core.Path.{sym, ◌∙◌}
use mathlib.Core.List.{List}
use Rattle.stored_object.specs.declared.Header.{Header}
use Prim.Native.Nat.{ℕ, ◌+◌, ◌-◌, ◌≤◌}
use lib.ListN.{length}
use Rattle.stored_object.specs.Objects.{Walked, told-by, header-begins, header-fits}
use Rattle.file_faults.proofs.Walks.{cut-passes, short-passes, walked_end, walked-cut, start-next, same_next}
use native.Mathlib.Omega.{arith}
use Rattle.file_faults.proofs.entries.walk.Goals as goal

pub loop-at-init : goal.loop-at-init
loop-at-init c = (c.requires.start, c.requires.same)

pub returns-in-End : goal.returns-in-End
returns-in-End c =
    let a = c.args in
    let past = told-by a.objects.now c.loop-at.at _ (sym c.step.ensures ∙ c.in-End.is) in
    record { start = c.loop-at.invariant.0; same = c.loop-at.invariant.1; ended = λ low. walked_end a.objects.now c.loop-at.at past }

pub returns-in-HeaderCut : goal.returns-in-HeaderCut
returns-in-HeaderCut c =
    let a = c.args in
    let cut = told-by a.objects.now c.loop-at.at _ (sym c.step.ensures ∙ c.in-HeaderCut.is) in
    record { start = c.loop-at.invariant.0; same = c.loop-at.invariant.1; ended = λ low. walked-cut a.objects.now c.loop-at.at cut.begins (cut-passes a.objects.now c.loop-at.at cut) }

-- an object that a step met lies within, and so does its end
further : (objects : List ℕ) (at : ℕ) (h : Header) → Walked objects at h → h.size ≤ h.room - 20
    → (20 + h.size ≤ h.room) × (at + (20 + h.size) ≤ length objects)
further objects at h w low =
    let r = header-fits objects at h w in
    (omega arith, omega arith)

pub overflow_sub-h : goal.overflow_sub-h
overflow_sub-h c =
    let objects = c.args.objects.now in
    let at = c.loop-at.at in
    let h = c.in-Here.h in
    let w : Walked objects at h = told-by _ _ _ (sym c.step.ensures ∙ c.in-Here.is) in
    omega (arith, (header-fits objects at h w).0)

pub returns-then-h : goal.returns-then-h
returns-then-h c =
    let objects = c.args.objects.now in
    let at = c.loop-at.at in
    let h = c.in-Here.h in
    let w : Walked objects at h = told-by _ _ _ (sym c.step.ensures ∙ c.in-Here.is) in
    record { start = c.loop-at.invariant.0; same = c.loop-at.invariant.1; ended = λ low. walked-cut objects at (header-begins objects at h w) (short-passes objects at h w (omega (arith, header-fits objects at h w))) }

pub overflow_add-at : goal.overflow_add-at
overflow_add-at c =
    let objects = c.args.objects.now in
    let at = c.loop-at.at in
    let h = c.in-Here.h in
    let w : Walked objects at h = told-by _ _ _ (sym c.step.ensures ∙ c.in-Here.is) in
    omega (arith, further objects at h w c.if-h.false)

pub overflow_add-at-in-Here : goal.overflow_add-at-in-Here
overflow_add-at-in-Here c =
    let objects = c.args.objects.now in
    let at = c.loop-at.at in
    let h = c.in-Here.h in
    let w : Walked objects at h = told-by _ _ _ (sym c.step.ensures ∙ c.in-Here.is) in
    omega (arith, further objects at h w c.if-h.false)

pub loop-at-smaller : goal.loop-at-smaller
loop-at-smaller c =
    let objects = c.args.objects.now in
    let at = c.loop-at.at in
    let h = c.in-Here.h in
    let w : Walked objects at h = told-by _ _ _ (sym c.step.ensures ∙ c.in-Here.is) in
    omega (arith, further objects at h w c.if-h.false)

pub loop-at-preserved : goal.loop-at-preserved
loop-at-preserved c =
    let a = c.args in
    let objects = c.args.objects.now in
    let at = c.loop-at.at in
    let h = c.in-Here.h in
    let w : Walked objects at h = told-by _ _ _ (sym c.step.ensures ∙ c.in-Here.is) in
    let d = (further objects at h w c.if-h.false).0 in
    (start-next a.objects.now at h w d c.loop-at.invariant.0, same_next a.objects.now at a.position h w d c.loop-at-test.true c.loop-at.invariant.1)

pub returns : goal.returns
returns c =
    record { start = c.loop-at.invariant.0; same = c.loop-at.invariant.1; ended = λ low. absurd (omega arith) }
