use mathlib.Core.Path.{◌≡◌, sym, ◌∙◌}
use mathlib.Core.List.{[], ◌∷◌, ◌++◌}
use lib.Dec.{eqb}
use Rattle.gc_split.proofs.RestTurns.{closing-next, closing_end, closing-bounds}
use Prim.Native.Nat.{◌+◌, ◌≤◌}
use native.Mathlib.Omega.{arith}
use borrow.Author.Rules.{rules}
use lib.ListN.{length, length-append}
use Rattle.std.proofs.lemmas.Slice.Zip.{zip_turn, zip_end}
use Rattle.gc_split.proofs.close_rests.Goals as goal

pub loop-size-preserved : goal.loop-size-preserved
loop-size-preserved c =
    let a = c.args in
    let t = c.loop-size.t in
    let inv = c.loop-size.invariant in
    let able = c.requires in
    let n = length c.loop-size.yielded in
    let size = c.in-Some.size.now in
    let count = c.in-Some.count.now in
    let here = zip_turn a.sizes.now a.counts.now _ _ _ c.next.new.self _ (search rules) (search rules) c.loop-size.yielded_by _ c.in-Some.is c.next.ensures.steps in
    let got = c.closed_rest-t.ensures in
    let more = closing-bounds a.slot_bytes size count t (eqb count 0) in
    let files : c.closed_rest-t.result.files ≤ t.files + 1 = rw got more.0 in
    let positions : c.closed_rest-t.result.positions ≤ t.positions + (size + 1) = rw got more.1 in
    let next = rw (← here.2 0, ← here.3 0) at (closing-next a.slot_bytes a.counts.now a.sizes.now n t here.1 here.0) in
    let one : length (c.loop-size.yielded ++ (c.in-Some.size, c.in-Some.count) ∷ []) ≡ n + 1 = length-append c.loop-size.yielded ((c.in-Some.size, c.in-Some.count) ∷ []) in
    rw one (omega (arith, inv.0), omega (arith, inv.1, able.sizes n, here.2 0), rw got (inv.2 ∙ next))

pub returns : goal.returns
returns c =
    let a = c.args in
    let able = c.requires in
    let n = length c.loop-size.yielded in
    let past : length a.counts.now ≤ n = omega (arith, able.shards, able.same, zip_end a.sizes.now a.counts.now _ _ _ c.next.new.self _ (search rules) (search rules) c.loop-size.yielded_by c.in-None.is c.next.ensures.steps) in
    sym (c.loop-size.invariant.2 ∙ closing_end a.slot_bytes a.counts.now a.sizes.now n c.loop-size.t past)
