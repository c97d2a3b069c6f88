use mathlib.Core.Path.{refl}
use borrow.Author.Tests.{eq-eqb, ne_eqb}
use lib.ListN.{drop, length-take, length-drop, length}
use Rattle.numbers.proofs.Lent.{read-in}
use Rattle.gc_files.specs.Places.{moving_at}
use Prim.Native.Nat.{◌+◌, ◌-◌}
use native.Mathlib.Omega.{arith}
use Rattle.gc_files.proofs.places.moving_at.Goals as goal

pub returns-then-place-eq1 : goal.returns-then-place-eq1
unfolding moving_at
returns-then-place-eq1 c = rw (eq-eqb c.args.place 1 c.if-place-eq1.true) refl

pub slice_bounds-get-count : goal.slice_bounds-get-count
slice_bounds-get-count c =
    let w = c.requires.whole (omega arith) in
    let inside = w.inside in
    omega arith

pub slice_bounds-get-start : goal.slice_bounds-get-start
slice_bounds-get-start c =
    let w = c.requires.whole (omega arith) in
    let inside = w.inside in
    omega arith

pub get-size-requires : goal.get-size-requires
get-size-requires c =
    let w = c.requires.whole (omega arith) in
    let inside = w.inside in
    let s = c.args.heap.now in
    let at = c.args.place + 12 in
    record {
      n_in_bounds = omega (arith, length-take (length s - at) (drop at s), length-drop at s);
      n_bound = omega arith;
    }

pub returns : goal.returns
unfolding moving_at
returns c =
    let w = c.requires.whole (omega arith) in
    let inside = w.inside in
    let s = c.args.heap.now in
    let size = read-in s (c.args.place + 12) 8 c.get-size.result (omega arith) c.get-size.ensures in
    rw (ne_eqb c.args.place 1 c.if-place-eq1.false, size) refl
