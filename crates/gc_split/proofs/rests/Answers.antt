use Rattle.gc_split.proofs.RestTurns.{placing-start, placing-turn, placing-end}
use Prim.Native.Nat.{◌≤◌, ◌<◌}
use native.Mathlib.Omega.{arith}
use lib.ListN.{length}
use Rattle.gc_split.proofs.rests.Goals as goal

pub loop-n-init : goal.loop-n-init
loop-n-init c =
    placing-start c.args.counts.now c.args.rounds.now c.args.rests.now

pub loop-n-preserved : goal.loop-n-preserved
loop-n-preserved c =
    let able = c.requires in
    let shards = able.shards in
    let same = able.same in
    let room = able.room in
    let n = c.loop-n.n in
    let p = c.loop-n.invariant in
    let fits = p.fits in
    let low : n < 65 = omega arith in
    let counts = rw c.piece.ensures at c.put_rest-left.ensures.counts in
    let writes = rw c.piece.ensures at c.put_rest-left.ensures.writes in
    placing-turn _ _ c.args.counts.now c.args.rounds.now c.loop-n.rests _ c.loop-n.left _ n (omega arith) (omega arith) (omega arith) p counts writes

pub returns : goal.returns
returns c =
    let past : length c.args.counts.now ≤ c.loop-n.n = omega arith in
    let whole = placing-end c.args.counts.now c.args.rounds.now c.args.rests.now c.loop-n.rests c.loop-n.left c.loop-n.n past c.loop-n.invariant in
    record {
      counts = whole.0;
      writes = whole.1;
    }
