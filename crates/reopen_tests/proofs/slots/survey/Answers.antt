use mathlib.Core.Path.{sym, ap, refl, ◌∙◌}
use Rattle.rules.proofs.SlotLaws.{slots_apart, views-length}
use Rattle.std.specs.Option.{unwrap_or}
use Rattle.std.proofs.lemmas.Result.{err_from_is_err_and}
use Rattle.reopen_tests.specs.Labels.{refusal_shown, label_shown}
use Rattle.reopen_tests.proofs.SurveyTurns.{labels-start, labels_next, labels-end, survey-here, survey-later, survey-end, said-refusal, said-label, shown-clear, shown-label, surveyed-refused, surveyed-clear}
use lib.ListN.{set}
use mathlib.Core.List.{List}
use Rattle.rules.specs.declared.Label.{Label}
use Rattle.rules.specs.SlotFile.{views_in}
use native.Mathlib.Omega.{arith}
use Rattle.reopen_tests.proofs.slots.survey.Goals as goal

pub loop-k-init : goal.loop-k-init
loop-k-init c =
    let a = c.args in
    (c.no_labels-slots.ensures ∙ sym (labels-start (views_in a.n a.size a.heap.now)), refl)

pub slot_at-requires : goal.slot_at-requires
slot_at-requires c =
    let a = c.args in
    omega (arith, c.requires, slots_apart a.size c.loop-k.k a.n c.loop-k-test.true)

pub returns-in_err-shown : goal.returns-in_err-shown
returns-in_err-shown c =
    let a = c.args in
    let k = c.loop-k.k in
    let views = views_in a.n a.size a.heap.now in
    let said = sym (said-refusal a.n a.size a.heap.now k c.loop-k-test.true _ c.slot_at.ensures _ c.check.ensures) ∙ ap refusal_shown c.in_err-shown.was in
    let all = sym c.loop-k.invariant.1 ∙ survey-here views k (omega (arith, views-length a.n a.size a.heap.now)) _ said in
    let p = err_from_is_err_and c.from_residual.result c.from_residual.ensures.1 in
    rw (p.1, p.2) (surveyed-refused views _ all)

pub loop-k-preserved : goal.loop-k-preserved
loop-k-preserved c =
    let a = c.args in
    let k = c.loop-k.k in
    let views = views_in a.n a.size a.heap.now in
    let low = c.loop-k-test.true in
    let many = views-length a.n a.size a.heap.now in
    let shown = c.in_ok-shown.shown in
    let said = sym (said-refusal a.n a.size a.heap.now k low _ c.slot_at.ensures _ c.check.ensures) ∙ ap refusal_shown c.in_ok-shown.was ∙ shown-clear shown in
    let label =
    c.unwrap_or.ensures ∙ ap (unwrap_or shown) c.no_label.ensures ∙ shown-label shown ∙ ap label_shown (sym c.in_ok-shown.was)
    ∙ said-label a.n a.size a.heap.now k low _ c.slot_at.ensures _ c.check.ensures in
    (ap (λ (ls : List Label). set ls k c.unwrap_or.result) c.loop-k.invariant.0 ∙ labels_next views k _ (omega arith) (omega arith) label, survey-later views k (omega arith) said ∙ c.loop-k.invariant.1)

pub returns : goal.returns
returns c =
    let a = c.args in
    let views = views_in a.n a.size a.heap.now in
    let k = c.loop-k.k in
    let many = views-length a.n a.size a.heap.now in
    surveyed-clear views _ (sym c.loop-k.invariant.1 ∙ survey-end views k (omega arith)) (c.loop-k.invariant.0 ∙ labels-end views k (omega arith))
