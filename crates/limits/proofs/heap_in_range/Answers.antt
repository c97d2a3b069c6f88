use Prim.Native.Nat.{◌%◌}
use mathlib.Core.Path.{refl, ◌∙◌}
use borrow.Author.Tests.{eq-eqb, ne_eqb}
use Rattle.rules.specs.Settings.{heap_in_range}
use Rattle.limits.proofs.heap_in_range.Goals as goal

pub returns-then-heap-s-ne0 : goal.returns-then-heap-s-ne0
unfolding heap_in_range
returns-then-heap-s-ne0 c =
    let s = c.args.s in
    let heap = c.args.heap in
    rw (ne_eqb (heap % s.slot_bytes) 0 c.if-heap-s-ne0.true) refl

pub returns : goal.returns
unfolding heap_in_range
returns c =
    let s = c.args.s in
    let heap = c.args.heap in
    c.within.ensures ∙ rw (eq-eqb (heap % s.slot_bytes) 0 c.if-heap-s-ne0.false) refl
