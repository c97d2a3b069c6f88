use mathlib.Core.Path.{refl, sym, ◌∙◌, subst}
use Prim.Native.Nat.{ℕ, ◌+◌, ◌*◌, ◌≤◌, ◌<◌, ◌-◌}
use native.Mathlib.Nat.{sub-zero}
use Rattle.stores.specs.Runs.{made_then, made_none, made-length, Made}
use Rattle.losses.proofs.LossTurns.{told-step, told-end, made_one}
use Rattle.losses.specs.Lines.{slots_told, LabelsIn}
use Rattle.rules.specs.PruneLaws.{emptying}
use native.Mathlib.Omega.{arith}
use borrow.Author.Rules.{rules}
use lib.ListN.{length, get_or, drop}
use mathlib.Core.List.{List}
use Rattle.losses.proofs.lines.empty_slots.Goals as goal

pub loop-i-init : goal.loop-i-init
loop-i-init c =
    let a = c.args in
    rw (sub-zero a.lines) (refl, c.requires.labels_in, λ after m d. d)

-- the next slot's label, and those behind it
labels : (lines i size : ℕ) (report : List ℕ) (room : ℕ) → i < lines → LabelsIn size (slots_told (lines - i) (drop (2 * i) report)) room
    → (get_or report (2 * i) 0 * size + 64 ≤ room) × LabelsIn size (slots_told (lines - (i + 1)) (drop (2 * (i + 1)) report)) room
labels lines i size report room more held = subst (λ (ks : List ℕ). LabelsIn size ks room) (told-step lines i report more) held

pub overflow_mul-slot-in-loop-i : goal.overflow_mul-slot-in-loop-i
overflow_mul-slot-in-loop-i c =
    let low = (labels c.args.lines c.loop-i.i c.args.slot_bytes c.args.report.now (length c.args.heap.now) c.loop-i-test.true c.loop-i.invariant.1).0 in
    let same = c.loop-i.invariant.0 in
    search rules

pub put_number-rest-requires : goal.put_number-rest-requires
put_number-rest-requires c =
    let low = (labels c.args.lines c.loop-i.i c.args.slot_bytes c.args.report.now (length c.args.heap.now) c.loop-i-test.true c.loop-i.invariant.1).0 in
    let same = c.loop-i.invariant.0 in
    omega arith

pub loop-i-preserved : goal.loop-i-preserved
loop-i-preserved c =
    let a = c.args in
    let i = c.loop-i.i in
    let words = a.report.now in
    let one = made_one a.slot_bytes (get_or words (2 * i) 0) c.put_number-rest.ensures in (
      made-length c.put_number-rest.ensures ∙ c.loop-i.invariant.0,
      (labels c.args.lines c.loop-i.i c.args.slot_bytes c.args.report.now (length c.args.heap.now) c.loop-i-test.true c.loop-i.invariant.1).1,
      λ after m d. c.loop-i.invariant.2 after m (subst (λ (ks : List ℕ). Made c.loop-i.rest (emptying a.slot_bytes ks) c.loop-i.heap after m) (sym (told-step a.lines i words c.loop-i-test.true)) (made_then one d)),
    )

pub returns : goal.returns
returns c =
    let a = c.args in
    c.loop-i.invariant.2 c.loop-i.heap c.loop-i.rest (rw (told-end a.lines c.loop-i.i (drop (2 * c.loop-i.i) a.report.now) (omega arith)) (made_none c.loop-i.rest c.loop-i.heap))
