use mathlib.Core.Path.{refl, ap}
use lib.ListN.{drop, length-drop, length}
use Rattle.rules.specs.Object.{stored_at}
use borrow.Author.Tests.{lt-ltb, le-ltb}
use Rattle.stored_object.specs.declared.Step.TheVariants.{Here}
use Rattle.stored_object.specs.Objects.{objects-next, objects-end}
use native.Mathlib.Omega.{arith}
use Rattle.stored_object.proofs.object.step.Goals as goal

pub returns-then-left-eq0 : goal.returns-then-left-eq0
returns-then-left-eq0 c =
    let s = c.args.objects.now in
    let at = c.args.position in
    rw (objects-end s at (omega (arith, c.room-left.ensures, c.if-left-eq0.true))) refl

pub returns-then-left : goal.returns-then-left
unfolding stored_at
returns-then-left c =
    let s = c.args.objects.now in
    let at = c.args.position in
    rw (objects-next s at (omega (arith, c.room-left.ensures, c.if-left-eq0.false)), lt-ltb (length (drop at s)) 20 (omega (arith, length-drop at s, c.room-left.ensures, c.if-left.true))) refl

pub returns : goal.returns
unfolding stored_at
returns c =
    let s = c.args.objects.now in
    let at = c.args.position in
    rw (objects-next s at (omega (arith, c.room-left.ensures, c.if-left.false)), le-ltb (length (drop at s)) 20 (omega (arith, length-drop at s, c.room-left.ensures, c.if-left.false))) (ap Here c.header.ensures)
