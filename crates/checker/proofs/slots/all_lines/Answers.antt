use mathlib.Core.Path.{◌≡◌, refl, sym, ap, ◌∙◌}
use mathlib.Core.List.{List}
use mathlib.Core.Bool.{Bool}
use Prim.Native.Nat.{ℕ, ◌+◌, ◌≤◌, ◌<◌}
use lib.ListN.{length, take, get_or, length-append, length-map}
use Rattle.rules.specs.SlotFile.{empty, bytes_of_slot, view_in, views_in}
use Rattle.rules.proofs.SlotLaws.{views-length}
use Rattle.faults.specs.Faults.{judged, slot_faults}
use Rattle.faults.specs.Judging.{Judged, judges-at}
use Rattle.file_faults.proofs.Telling.{tells_none, tells_as, going_start, going-as, going_on, going-last}
use Rattle.rules.specs.Base.{any}
use Rattle.rules.specs.declared.Label.{Label}
use Rattle.reopen_tests.specs.Labels.{label_at, clash}
use Rattle.checker.specs.SlotLines.{slot_lines, slots_judged, earlier_to, lines_from}
use Rattle.checker.proofs.SlotLines.{slot-lines, view-is, meets-by-label, lines-all, lines_next, lines_none}
use native.Mathlib.Omega.{arith}
use Rattle.checker.proofs.slots.all_lines.Goals as goal

pub loop-k-init : goal.loop-k-init
loop-k-init c = let a = c.args in
    (refl, going-as (sym (lines-all (slots_judged a.n a.size a.heap.now))) going_start)

-- slot k is one of them
low : (n size : ℕ) (heap : List ℕ) (k : ℕ) → k < n → k < length (slots_judged n size heap)
low n size heap k h =
    omega (arith, length-map (views_in n size heap) judged, views-length n size heap, h)

-- what is told of it is its part of the list
chunk : (n size : ℕ) (heap : List ℕ) (ls : List Label) (w : Judged n size heap ls) (k : ℕ) (slot : List ℕ) (met : Bool) → k < n → slot ≡ bytes_of_slot size heap k
    → met ≡ any (λ (m : Label). clash m (label_at ls k)) (take k ls)
    → let vs = slots_judged n size heap in slot_lines k met (judged (view_in slot)) ≡ slot_faults k (earlier_to k vs) (get_or vs k empty)
chunk n size heap ls w k slot met h at said =
    let vs = slots_judged n size heap in
    ap (λ (s : List ℕ). slot_lines k met (judged (view_in s))) at
    ∙ slot-lines k (earlier_to k vs) met _ (λ f v. said ∙ meets-by-label n size heap ls w k h (judges-at n size heap ls w k h) f v)
    ∙ ap (slot_faults k (earlier_to k vs)) (sym (view-is n size heap ls w k h))

pub slot_lines-count-requires : goal.slot_lines-count-requires
slot_lines-count-requires c =
    let a = c.args in
    let vs = slots_judged a.n a.size a.heap.now in
    let k = c.loop-k.k in
    let first = slot_faults k (earlier_to k vs) (get_or vs k empty) in record {
      judges = rw c.slot_at.ensures (judges-at a.n a.size a.heap.now a.slots.now.labels c.requires.judged k c.loop-k-test.true);
      slot_bound = omega (arith, c.requires.heap_len_bound, ap length (chunk a.n a.size a.heap.now a.slots.now.labels c.requires.judged c.loop-k.k c.slot_at.result.now c.meets_earlier-met.result c.loop-k-test.true c.slot_at.ensures c.meets_earlier-met.ensures), (going-as (lines_next vs k (low a.n a.size a.heap.now c.loop-k.k c.loop-k-test.true)) c.loop-k.invariant.1).count, length-append first (lines_from (k + 1) vs));
    }

pub loop-k-preserved : goal.loop-k-preserved
loop-k-preserved c =
    let a = c.args in
    let vs = slots_judged a.n a.size a.heap.now in
    (c.slot_lines-count.auto.listing ∙ c.loop-k.invariant.0, going_on (going-as (lines_next vs c.loop-k.k (low a.n a.size a.heap.now c.loop-k.k c.loop-k-test.true)) c.loop-k.invariant.1) (tells_as (chunk a.n a.size a.heap.now a.slots.now.labels c.requires.judged c.loop-k.k c.slot_at.result.now c.meets_earlier-met.result c.loop-k-test.true c.slot_at.ensures c.meets_earlier-met.ensures) c.slot_lines-count.ensures))

pub returns : goal.returns
returns c =
    let a = c.args in
    let vs = slots_judged a.n a.size a.heap.now in
    let past : length vs ≤ c.loop-k.k = omega (arith, length-map (views_in a.n a.size a.heap.now) judged, views-length a.n a.size a.heap.now, c.loop-k-test.false) in
    going-last (going-as (lines_none vs c.loop-k.k past) c.loop-k.invariant.1) (tells_none c.loop-k.count c.loop-k.listing)
