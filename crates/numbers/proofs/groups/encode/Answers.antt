use mathlib.Core.Path.{refl}
use native.Mathlib.Omega.{arith}
use native.Mathlib.Nat.{zero-add}
use lib.Dec.{lit<}
use lib.ListN.{length-set}
use Rattle.numbers.specs.Parts.{put_front}
use Rattle.numbers.proofs.GroupTurns.{turn, done}
use Rattle.numbers.proofs.groups.encode.Goals as goal

pub loop-rest-init : goal.loop-rest-init
loop-rest-init c = (
  refl,
  record {
    room = lit< tt;
    small = let f = c.ranges.x.fits in omega arith;
    list = put_front _ _;
    count = zero-add _;
  },
)

pub loop-rest-preserved : goal.loop-rest-preserved
loop-rest-preserved c =
    let inv = c.loop-rest.invariant in
    (simp length-set inv.0, turn _ _ _ _ _ _ (omega (arith, c.requires)) c.loop-rest-test.true inv.1)

pub shape_of-s : goal.shape_of-s
shape_of-s c = simp length-set c.loop-rest.invariant.0

pub returns : goal.returns
returns c = let whole = done 10 _ _ _ _ _ (omega (arith, c.requires, c.loop-rest.invariant.0)) c.loop-rest-test.false c.loop-rest.invariant.1 in
    record {
      counts = whole.0;
      writes = whole.1;
    }
