-- The survey of the slots: its answer and its labels, slot by slot.
use mathlib.Core.Path.{◌≡◌, refl, sym, ap, ◌∙◌}
use mathlib.Core.List.{List, [], ◌∷◌, ◌++◌, map, map-append}
use Prim.Native.Nat.{ℕ, suc, ◌+◌, ◌-◌, ◌<◌, ◌≤◌}
use native.Mathlib.Omega.{arith}
use native.Mathlib.Numerals.{add-one}
use lib.ListN.{length, get_or, set, take, drop, replicate, length-map, drop_of_length-le}
use lib.Seq.{take-suc, set_at, append_snoc, length-take-le, take_all}
use Rattle.rules.specs.Base.{each}
use Rattle.rules.specs.Refusal.{decide}
use Rattle.rules.proofs.RefusalLaws.{decide-none, decide-early, decide-late}
use Rattle.rules.specs.FileMap.{empty_label}
use Rattle.rules.specs.SlotFile.{View, empty, damaged, holds, bytes_of_slot, view_in, views_in}
use Rattle.rules.proofs.SlotLaws.{views-at}
use Rattle.std.specs.Prelude.{Option, None, Some, Ok, Err}
use Rattle.std.specs.Option.{unwrap_or}
use Rattle.reopen_tests.specs.declared.Labels.{Labels}
use Rattle.slot_file.specs.Answers.{SlotAnswer}
use Rattle.rules.specs.Reopen.{view_tests}
use Rattle.slot_file.specs.Slots.{shown_by}
use Rattle.reopen_tests.specs.Types.{Label, Refusal}
use Rattle.reopen_tests.specs.Labels.{no_labels, refusal_shown, label_shown, label_of, labels_of, surveyed}
use Rattle.rules.proofs.TurnLaws.{left-next}

-- what a slot answers is what its view says
pub refusal-shown : (v : View) → refusal_shown (shown_by v) ≡ decide (view_tests v)
unfolding decide
refusal-shown empty = refl
refusal-shown (damaged r) = refl
refusal-shown (holds f) = refl

pub label-shown : (v : View) → label_shown (shown_by v) ≡ label_of v
label-shown empty = refl
label-shown (damaged r) = refl
label-shown (holds f) = refl

-- a slot that is not damaged
pub shown-clear : (l : Option Label) → refusal_shown (Ok l) ≡ Ok tt
shown-clear None = refl
shown-clear (Some l) = refl

pub shown-label : (l : Option Label) → unwrap_or l empty_label ≡ label_shown (Ok l)
shown-label None = refl
shown-label (Some l) = refl

-- ---- the labels of the first k slots
abbrev pub labels_to : ℕ → List View → List Label
labels_to k views = map label_of (take k views) ++ replicate (256 - k) empty_label

pub labels-start : (views : List View) → labels_to 0 views ≡ no_labels
unfolding no_labels
labels-start views = refl

pub labels_next : (views : List View) (k : ℕ) (l : Label) → k < length views → k < 256 → l ≡ label_of (get_or views k empty)
    → set (labels_to k views) k l ≡ labels_to (k + 1) views
labels_next views k l h low e =
    let p = map label_of (take k views) in
    let rest = replicate (256 - (k + 1)) empty_label in
    let more : 256 - k ≡ suc (256 - (k + 1)) = omega arith in
    let here : take (k + 1) views ≡ take k views ++ (get_or views k empty ∷ []) = rw (add-one k) (take-suc views k empty h) in
    rw more (set_at p empty_label rest l k (length-map (take k views) label_of ∙ length-take-le k views (omega arith)))
    ∙ sym (append_snoc p l rest)
    ∙ ap (λ (x : Label). (p ++ (x ∷ [])) ++ rest) e
    ∙ ap (λ (ls : List Label). ls ++ rest) (sym (map-append label_of (take k views) (get_or views k empty ∷ [])))
    ∙ ap (λ (vs : List View). map label_of vs ++ rest) (sym here)

pub labels-end : (views : List View) (k : ℕ) → length views ≡ k → labels_to k views ≡ labels_of views
unfolding labels_of
labels-end views k e = rw (e, take_all k views (omega arith)) refl

-- ---- the first refusal of the slots from k on
module _ (views : List View) (k : ℕ) (h : k < length views) where
  rest : each view_tests (drop k views) ≡ view_tests (get_or views k empty) ++ each view_tests (drop (k + 1) views)
  unfolding each
  rest = ap (each view_tests) (left-next views k empty h)

  pub survey-here : (r : Refusal) → decide (view_tests (get_or views k empty)) ≡ Err r → decide (each view_tests (drop k views)) ≡ Err r
  survey-here r e = ap decide rest ∙ decide-early (view_tests (get_or views k empty)) _ r e

  pub survey-later : decide (view_tests (get_or views k empty)) ≡ Ok tt → decide (each view_tests (drop (k + 1) views)) ≡ decide (each view_tests (drop k views))
  survey-later e = sym (ap decide rest ∙ decide-late (view_tests (get_or views k empty)) _ e)

pub survey-end : (views : List View) (k : ℕ) → length views ≤ k → decide (each view_tests (drop k views)) ≡ Ok tt
unfolding each
survey-end views k h = ap (λ (vs : List View). decide (each view_tests vs)) (drop_of_length-le views {i = k} h) ∙ decide-none

-- slot k as the code read it
module _ (n size : ℕ) (heap : List ℕ) (k : ℕ) (h : k < n) (slot : List ℕ) (at : slot ≡ bytes_of_slot size heap k) (answer : SlotAnswer) (is : answer ≡ shown_by (view_in slot)) where
  view : view_in slot ≡ get_or (views_in n size heap) k empty
  view = ap view_in at ∙ sym (views-at n size heap k h)

  pub said-refusal : refusal_shown answer ≡ decide (view_tests (get_or (views_in n size heap) k empty))
  said-refusal = ap refusal_shown is ∙ refusal-shown (view_in slot) ∙ ap (λ (v : View). decide (view_tests v)) view

  pub said-label : label_shown answer ≡ label_of (get_or (views_in n size heap) k empty)
  said-label = ap label_shown is ∙ label-shown (view_in slot) ∙ ap label_of view

-- what is handed back
module _ (views : List View) where
  pub surveyed-refused : (r : Refusal) → decide (each view_tests views) ≡ Err r → Err r ≡ surveyed views
  unfolding surveyed
  surveyed-refused r e = rw e refl

  pub surveyed-clear : (slots : Labels) → decide (each view_tests views) ≡ Ok tt → slots.labels ≡ labels_of views → Ok slots ≡ surveyed views
  unfolding surveyed
  surveyed-clear slots e f = rw e (ap (λ (ls : List Label). Ok (record { labels = ls })) f)
