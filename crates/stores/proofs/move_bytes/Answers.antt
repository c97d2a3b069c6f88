use mathlib.Core.Path.{◌≡◌, refl, sym, ap, ◌∙◌}
use mathlib.Core.Logic.{◌⊎◌, ⊎_elim, inl, inr}
use Prim.Native.Nat.{suc, zero-le, min, ℕ, ◌+◌, ◌≤◌, ◌-◌}
use native.Mathlib.Nat.{add-zero, sub-zero}
use lib.ListN.{take, drop, length-drop, length, get_or, length-set}
use lib.Seq.{length-take-le, take-take}
use Rattle.numbers.specs.Parts.{put_at, put-none}
use Rattle.stores.specs.Runs.{made-put}
use Rattle.stores.proofs.FirstBytes.{take-lesser}
use Rattle.stores.proofs.MoveTurn.{to_move, move-turn}
use native.Mathlib.Omega.{arith}
use Rattle.stores.proofs.move_bytes.Goals as goal

pub loop-i-init : goal.loop-i-init
loop-i-init c = (zero-le, refl, simp (add-zero, sub-zero))

pub loop-i-preserved : goal.loop-i-preserved
loop-i-preserved c =
    let l = c.loop-i in
    let a = c.args in
    let many = c.lesser-many.result in
    let i = l.i in
    let on-at : a.at + (i + 1) ≡ a.at + i + 1 = omega arith in
    let on-from : a.from + (i + 1) ≡ a.from + i + 1 = omega arith in
    let one : suc (many - (i + 1)) ≡ many - i = omega arith in
    let apart : (a.at + i ≤ a.from + i) ⊎ (a.from + i + suc (many - (i + 1)) ≤ a.at + i) = ⊎_elim (λ e. inl (omega arith)) (λ e. inr (omega (arith, c.lesser-many.ensures))) c.requires.2 in (
      omega arith,
      length-set l.heap (a.at + i) (get_or l.heap (a.from + i) 0) ∙ l.invariant.1,
      rw (on-at, on-from)
          (move-turn l.heap (a.at + i) (a.from + i) (many - (i + 1)) (omega (arith, c.lesser-many.ensures)) (omega (arith, c.lesser-many.ensures)) apart
          ∙ ap (to_move l.heap (a.at + i) (a.from + i)) one ∙ l.invariant.2),
    )

pub returns : goal.returns
returns c =
    let l = c.loop-i in
    let a = c.args in
    let h = a.heap.now in
    let many = c.lesser-many.result in
    let source = take a.n (drop a.from h) in
    let size : length source ≡ a.n = length-take-le a.n (drop a.from h) (omega (arith, length-drop a.from h, c.requires)) in
    let none : many - l.i ≡ 0 = omega arith in
    let written : take many (drop a.from h) ≡ take a.left source =
    sym (take-take many a.n (drop a.from h) (omega (arith, c.lesser-many.ensures)))
    ∙ ap (λ (m : ℕ). take m source) (c.lesser-many.ensures ∙ ap (λ (m : ℕ). min m a.left) (sym size))
    ∙ take-lesser a.left source in
    made-put a.left a.at source h _ _ (omega (arith, c.requires))
    (sym (put-none l.heap (a.at + l.i)) ∙ ap (λ (m : ℕ). to_move l.heap (a.at + l.i) (a.from + l.i) m) (sym none) ∙ l.invariant.2 ∙ ap (put_at h a.at) written)
    (omega (arith, c.lesser-many.ensures))
