use mathlib.Core.Path.{◌≡◌, refl, sym, ◌∙◌}
use mathlib.Core.Bool.{true, false}
use Prim.Native.Nat.{◌+◌}
use native.Mathlib.Omega.{arith}
use borrow.Author.Rules.{rules}
use lib.ListN.{length, length-set}
use lib.Seq.{drop-set-lt}
use Rattle.rules.specs.FileMap.{empty_record, record_at}
use Rattle.rules.proofs.PruneLaws.{dead}
use Rattle.stores.specs.Runs.{made_then, made_none, made-length}
use Rattle.file_map.proofs.RecordTurns.{mapped-length}
use Rattle.prune.proofs.EmptyingTurns.{emptied-start, emptied-here, emptied-other, emptied-end, stores-start, stores-next, stores-end, labels-start, labels_next}
use Rattle.prune.proofs.prune_stores.Goals as goal
use Rattle.prune.proofs.prune_stores.Goals.{then-is_dead, else-is_dead}

pub loop-i-init : goal.loop-i-init
loop-i-init c =
    let a = c.args in
    let rs = a.files.records in
    let all : length rs ≡ 256 = search (mapped-length, rules) in
    rw c.first-i.ensures (record {
      all = all;
      long = refl;
      labels = labels-start a.slot_bytes (length a.heap.now) a.due rs c.requires;
      emptied = emptied-start a.claims a.due rs all;
      stored = λ after m d. rw (← stores-start a.slot_bytes a.claims a.due rs all) d;
    })

pub zero_label-rest-requires : goal.zero_label-rest-requires
zero_label-rest-requires c =
    let l = c.loop-i in
    let a = c.args in
    let low = l.invariant.labels l.i (omega arith) (omega arith) (dead a.claims l.i (record_at l.n.records l.i) (sym c.is_dead.ensures ∙ c.if-is_dead.true)).file in
    omega (arith, l.invariant.long)

pub loop-i-preserved : goal.loop-i-preserved
loop-i-preserved c =
    let l = c.loop-i in
    let a = c.args in
    let i = l.i in
    let rs = l.n.records in
    elim c.if-is_dead.branch [
      | then-is_dead w ↦
          let gone = sym c.is_dead.ensures ∙ w.if-is_dead.true in
          let one = w.zero_label-rest.ensures in
          rw (w.n-is, w.heap-is, w.rest-is, w.empty.ensures) (record {
            all = simp length-set (omega arith);
            long = made-length one ∙ l.invariant.long;
            labels = labels_next a.slot_bytes (length a.heap.now) i rs empty_record l.invariant.labels;
            emptied = emptied-here a.claims i rs (omega arith) gone ∙ l.invariant.emptied;
            stored = λ after m d. l.invariant.stored after m (rw (stores-next a.slot_bytes a.claims i rs true (sym gone) (omega arith)) (made_then one (rw (drop-set-lt (i + 1) rs i empty_record (omega arith)) at d)));
          })
      | else-is_dead w ↦
          let stays = sym c.is_dead.ensures ∙ w.if-is_dead.false in
          rw (w.n-is, w.heap-is, w.rest-is) (record {
            all = l.invariant.all;
            long = l.invariant.long;
            labels = λ k low q e. l.invariant.labels k (omega arith) q e;
            emptied = emptied-other a.claims i rs (omega arith) stays ∙ l.invariant.emptied;
            stored = λ after m d. l.invariant.stored after m (rw (stores-next a.slot_bytes a.claims i rs false (sym stays) (omega arith)) d);
          })
    ]

pub shape_of-heap : goal.shape_of-heap
shape_of-heap c =
    let l = c.loop-i in
    let same = l.invariant.long in
    search rules

pub returns : goal.returns
returns c =
    let l = c.loop-i in
    let a = c.args in
    let rs = l.n.records in record {
      records = sym (emptied-end a.claims l.i rs (omega arith)) ∙ l.invariant.emptied;
      heap = (l.invariant.stored l.heap l.rest (rw (stores-end a.slot_bytes a.claims l.i rs (omega arith)) (made_none l.rest l.heap))).heap;
    }
