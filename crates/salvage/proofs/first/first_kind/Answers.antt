use mathlib.Core.Path.{refl, sym, ap, ◌∙◌, subst, ◌≡◌}
use Prim.Native.Nat.{zero-le, ◌^◌, ℕ, ◌≤◌, ◌<◌}
use Rattle.rules.specs.SlotFile.{empty, view_in, bytes_of_slot}
use Rattle.slot_file.specs.Slots.{shown_by}
use Rattle.faults.specs.Faults.{judged}
use Rattle.salvage.specs.Types.{SlotAnswer}
use Rattle.losses.specs.Lines.{loss_shown, own-shown, reports-as, going_start, going-as, going_on, going_end}
use Rattle.losses.specs.Starts.{start_shown, end_shown, end_fits, judged-length, judged-view, slots_judged, start_in, end_in}
use Rattle.losses.proofs.LossTurns.{first_next, first-none, shown-few, fill_start, fill-next, fill_end}
use native.Mathlib.Omega.{arith}
use lib.ListN.{length, get_or, length-set}
use mathlib.Core.List.{List}
use Rattle.salvage.proofs.first.first_kind.Goals as goal

pub loop-k-init : goal.loop-k-init
loop-k-init c =
    let a = c.args in
    let vs = slots_judged (length a.starts.now) a.size a.heap.now in
    let many = judged-length (length a.starts.now) a.size a.heap.now in
    (refl, refl, c.requires.ends_len, zero-le, going_start, fill_start start_in vs a.starts.now (sym many), fill_start end_in vs a.ends.now (c.requires.ends_len ∙ sym many))

-- what slot k shows by itself
shown-is : (n size : ℕ) (heap slot : List ℕ) (k : ℕ) (s : SlotAnswer) → k < n → slot ≡ bytes_of_slot size heap k → s ≡ shown_by (judged (view_in slot)) → s ≡ shown_by (get_or (slots_judged n size heap) k empty)
shown-is n size heap slot k s low at is =
    is ∙ ap (λ (s : List ℕ). shown_by (judged (view_in s))) at ∙ ap shown_by (sym (judged-view n size heap k low))

pub range-requires : goal.range-requires
range-requires c = subst (λ (s : SlotAnswer). end_shown s < 2 ^ 64) (sym c.own-shown.ensures) (end_fits c.slot_at.result.now)

pub loop-k-preserved : goal.loop-k-preserved
loop-k-preserved c =
    let a = c.args in
    let n = length a.starts.now in
    let vs = slots_judged n a.size a.heap.now in
    let k = c.loop-k.k in
    let inv = c.loop-k.invariant in
    let many = judged-length n a.size a.heap.now in
    let low : k < length vs = omega (arith, many) in
    let is = shown-is n a.size a.heap.now c.slot_at.result.now k c.own-shown.result (omega arith) c.slot_at.ensures c.own-shown.ensures in
    let line = c.own_line-count.ensures in (
      c.own_line-count.auto.report ∙ inv.0,
      length-set c.loop-k.starts k _ ∙ inv.1,
      length-set c.loop-k.ends k _ ∙ inv.2,
      omega (arith, line.count, shown-few k c.own-shown.result),
      going_on (omega (arith, c.requires.size_in_bounds.1, inv.0, inv.3)) (going-as (first_next vs k low) inv.4) (reports-as (ap (loss_shown k) is ∙ own-shown k (get_or vs k empty)) line),
      fill-next start_in vs c.loop-k.starts (inv.1 ∙ sym many) k _ low (c.range.ensures.start ∙ ap start_shown is) ∙ inv.5,
      fill-next end_in vs c.loop-k.ends (inv.2 ∙ sym many) k _ low (c.range.ensures.end ∙ ap end_shown is) ∙ inv.6,
    )

pub returns : goal.returns
returns c =
    let a = c.args in
    let n = length a.starts.now in
    let vs = slots_judged n a.size a.heap.now in
    let k = c.loop-k.k in
    let inv = c.loop-k.invariant in
    let many = judged-length n a.size a.heap.now in
    let past : length vs ≤ k = omega (arith, many) in record {
      reports = going_end (going-as (first-none vs k past) inv.4);
      starts = sym (fill_end start_in vs c.loop-k.starts (inv.1 ∙ sym many) k past) ∙ inv.5;
      ends = sym (fill_end end_in vs c.loop-k.ends (inv.2 ∙ sym many) k past) ∙ inv.6;
    }
