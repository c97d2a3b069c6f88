use mathlib.Core.Path.{sym, ap, ◌∙◌, ◌≡◌}
use mathlib.Core.List.{List, map}
use Prim.Native.Nat.{ℕ}
use native.Mathlib.Omega.{arith}
use lib.ListN.{length, set, length-map}
use Rattle.rules.specs.declared.Label.{Label}
use Rattle.rules.specs.SlotFile.{View, view_in, views_in}
use Rattle.rules.proofs.SlotLaws.{slots_apart, views-length, views-at}
use Rattle.reopen_tests.specs.Labels.{label_shown, label_of}
use Rattle.reopen_tests.proofs.SurveyTurns.{labels-start, labels_next, labels-end, label-shown}
use Rattle.faults.specs.Faults.{judged}
use Rattle.faults.specs.Judging.{judged-at}
use Rattle.faults.proofs.sound.Goals as goal

pub loop-k-init : goal.loop-k-init
loop-k-init c =
    let a = c.args in
    c.no_labels-slots.ensures ∙ sym (labels-start (map judged (views_in a.n a.size a.heap.now)))

pub slot_at-requires : goal.slot_at-requires
slot_at-requires c =
    let a = c.args in
    omega (arith, c.requires, slots_apart a.size c.loop-k.k a.n c.loop-k-test.true)

pub loop-k-preserved : goal.loop-k-preserved
loop-k-preserved c =
    let a = c.args in
    let k = c.loop-k.k in
    let views = views_in a.n a.size a.heap.now in
    let low = c.loop-k-test.true in
    let many : length (map judged views) ≡ a.n = length-map views judged ∙ views-length a.n a.size a.heap.now in
    let most = c.requires.n_bound in
    let label =
    c.label.ensures ∙ ap label_shown c.own.ensures ∙ label-shown (judged (view_in c.slot_at.result.now))
    ∙ ap (λ (s : List ℕ). label_of (judged (view_in s))) c.slot_at.ensures
    ∙ ap (λ (v : View). label_of (judged v)) (sym (views-at a.n a.size a.heap.now k low))
    ∙ ap label_of (sym (judged-at views k)) in
    ap (λ (ls : List Label). set ls k c.label.result) c.loop-k.invariant ∙ labels_next (map judged views) k _ (omega arith) (omega arith) label

pub returns : goal.returns
returns c =
    let a = c.args in
    let views = views_in a.n a.size a.heap.now in
    let many = views-length a.n a.size a.heap.now in
    c.loop-k.invariant ∙ labels-end (map judged views) c.loop-k.k (length-map views judged ∙ many ∙ omega arith)
