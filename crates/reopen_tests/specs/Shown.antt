-- What a slot that passed 8 to 13 shows beside its label.
use Rattle.std.specs.Prelude.{◌≡◌, refl, ◌⊎◌, ◌<◌, ◌≤◌, ◌∷◌, ◌++◌, ◌+◌, ◌*◌, Err, Ok}
use Rattle.std.proofs.Common.{sym, ap, ◌∙◌, subst, true≢false, inl, inr, arith, suc-mul, not-suc-le-zero, le_of_suc-le-suc, ne_eqb, length-drop, length-take-le}
use Rattle.rules.specs.Base.{true, false, List, [], map, ℕ, zero, suc, length, get_or, take, drop, any, each}
use Rattle.rules.specs.BaseLaws.{All}
use Rattle.reopen_tests.specs.Types.{Label, Refusal, Answer, LabelAnswer, Vacant, Five, Wrong}
use Rattle.rules.specs.Refusal.{decide, NoneHolds}
use Rattle.rules.proofs.RefusalLaws.{clear-when, decide-clear, none_first, none_rest}
use Rattle.rules.specs.Trailer.{count_in, trailer_tests, misplaced}
use Rattle.rules.specs.Label.{label_in}
use Rattle.rules.specs.LabelLaws.{InBounds}
use Rattle.rules.proofs.LabelLaws.{in_bounds, lsn-some}
use Rattle.rules.specs.FileMap.{empty_label}
use Rattle.rules.specs.SlotFile.{File, View, empty, damaged, holds, bytes_of_slot, slot_tests, trailer_part, object_part, trailer_entries, view_by, view_in, views_in}
use Rattle.rules.proofs.SlotLaws.{views-length, views-at}
use Rattle.rules.specs.Reopen.{view_tests, file_of}
use Rattle.trailer.specs.Entries.{clear-fits}
use Rattle.reopen_tests.specs.Labels.{no_file, label_at, label_of, labels_of}

-- a label within 8's bounds is a file's
pub label-some : (size : ℕ) (l : Label) → InBounds size l → no_file l ≡ false
label-some size l w = let some = lsn-some size l w in ne_eqb l.lsn 0 (λ z. omega arith)

-- the file that a label shows of its slot
abbrev pub file_seen : Label → List ℕ → File
file_seen l slot = record { label = l; entries = trailer_entries l slot; objects = object_part l slot }

-- a slot whose file passed 8 to 13
pub record FileAt (slot : List ℕ) (l : Label) : Type 0 where
  pub seen : view_in slot ≡ holds (file_seen l slot)
  pub bounds : InBounds (length slot) l
  pub fits : 12 + 16 * count_in (trailer_part l slot) ≤ length (trailer_part l slot)
  pub positions : any (misplaced l.trailer_offset) (trailer_entries l slot) ≡ false

-- a slot and its label: both empty, or a file and its label
abbrev pub Shown : List ℕ → Label → Type 0
Shown slot l = ((view_in slot ≡ empty) × (l ≡ empty_label)) ⊎ FileAt slot l

-- the slots passed 8 to 13, and these are their labels
pub record Surveyed (n size : ℕ) (heap : List ℕ) (ls : List Label) : Type 0 where
  pub within : n * size ≤ length heap
  pub most : n ≤ 256
  pub clear : decide (each view_tests (views_in n size heap)) ≡ Ok tt
  pub labels : ls ≡ labels_of (views_in n size heap)

-- ---- of one slot
module _ (slot : List ℕ) (l : Label) where
  file-at : view_in slot ≡ view_by (Five l) slot → decide (slot_tests l slot) ≡ Ok tt → FileAt slot l
  unfolding slot_tests NoneHolds
  file-at e clear =
      let none = clear-when (slot_tests l slot) clear in
      let trailer = none_first (trailer_tests (trailer_part l slot)) _ none.1 in
      let rest = none_rest (trailer_tests (trailer_part l slot)) _ none.1 in
      record {
        seen = e ∙ rw clear refl;
        bounds = in_bounds (length slot) l none.0;
        fits = clear-fits (trailer_part l slot) (decide-clear (trailer_tests (trailer_part l slot)) trailer);
        positions = rest.0;
      }

pub refused-not-done : {A : Type 0} {r : Refusal} → ◌≡◌ {A = Answer} (Err r) (Ok tt) → A
refused-not-done e = absurd (let z : ◌≡◌ {A = ℕ} 0 1 = cc in omega arith)

-- a slot that is not damaged, and its label
pub shown : (slot : List ℕ) → decide (view_tests (view_in slot)) ≡ Ok tt → Shown slot (label_of (view_in slot))
unfolding view_in decide
shown slot clear = go (label_in (take 64 slot)) refl
  where
    five : (l : Label) (a : Answer) → label_in (take 64 slot) ≡ Five l → decide (slot_tests l slot) ≡ a → Shown slot (label_of (view_in slot))
    five l (Ok _) e q =
        let w = file-at slot l (ap (λ (a : LabelAnswer). view_by a slot) e) q in
        inr (rw w.seen w)
    five l (Err n) e q = refused-not-done (rw (e, q) at clear)

    go : (a : LabelAnswer) → label_in (take 64 slot) ≡ a → Shown slot (label_of (view_in slot))
    go Vacant e = inl (rw e refl, rw e refl)
    go Wrong e = refused-not-done (rw e at clear)
    go (Five l) e = five l (decide (slot_tests l slot)) e refl

module _ (slot : List ℕ) (l : Label) where
  -- where the label is none there is no file
  pub shown-empty : Shown slot l → no_file l ≡ true → file_of (view_in slot) ≡ []
  shown-empty (inl (v, e)) q = rw v refl
  shown-empty (inr w) q = absurd (true≢false (sym q ∙ label-some (length slot) l w.bounds))

  -- where it is not, that is the file's
  pub shown-file : Shown slot l → no_file l ≡ false → FileAt slot l
  shown-file (inl (v, e)) q = absurd (true≢false (ap no_file (sym e) ∙ q))
  shown-file (inr w) q = w

  pub file-of : FileAt slot l → file_of (view_in slot) ≡ file_seen l slot ∷ []
  file-of w = ap file_of w.seen

-- ---- of all slots
clear-view : (views : List View) (k : ℕ) → k < length views → NoneHolds (each view_tests views) → decide (view_tests (get_or views k empty)) ≡ Ok tt
unfolding each
clear-view [] k h none = absurd (not-suc-le-zero h)
clear-view (v ∷ vs) zero h none = decide-clear (view_tests v) (none_first (view_tests v) (each view_tests vs) none)
clear-view (v ∷ vs) (suc k) h none = clear-view vs k (le_of_suc-le-suc h) (none_rest (view_tests v) (each view_tests vs) none)

pub label-at : (views : List View) (rest : List Label) (k : ℕ) → k < length views → label_at (map label_of views ++ rest) k ≡ label_of (get_or views k empty)
label-at [] rest k h = absurd (not-suc-le-zero h)
label-at (v ∷ vs) rest zero h = refl
label-at (v ∷ vs) rest (suc k) h = label-at vs rest k (le_of_suc-le-suc h)

-- slot k and its label
pub shown-at : (n size : ℕ) (heap : List ℕ) (ls : List Label) → Surveyed n size heap ls → (k : ℕ) → k < n
    → Shown (bytes_of_slot size heap k) (label_at ls k)
unfolding labels_of
shown-at n size heap ls w k h =
    let views = views_in n size heap in
    let low : k < length views = omega (arith, views-length n size heap) in
    let at = views-at n size heap k h in
    let clear = clear-view views k low (clear-when (each view_tests views) w.clear) in
    let label : label_at ls k ≡ label_of (view_in (bytes_of_slot size heap k)) = ap (λ (ms : List Label). label_at ms k) w.labels ∙ label-at views _ k low ∙ ap label_of at in
    rw label (shown (bytes_of_slot size heap k) (ap (λ (v : View). decide (view_tests v)) (sym at) ∙ clear))

-- a view that passed 8 to 13
abbrev pub Sound : ℕ → View → Type 0
Sound size empty = Unit {0}
Sound size (damaged r) = ⊥
Sound size (holds f) = InBounds size f.label

shown-sound : (slot : List ℕ) (l : Label) → Shown slot l → Sound (length slot) (view_in slot)
shown-sound slot l (inl (v, e)) = rw v tt
shown-sound slot l (inr w) = rw w.seen w.bounds

sound-from : (n size : ℕ) (heap : List ℕ) → n * size ≤ length heap → NoneHolds (each view_tests (views_in n size heap)) → All (Sound size) (views_in n size heap)
unfolding views_in each
sound-from zero size heap fit none = tt
sound-from (suc n) size heap fit none =
    let slot = take size heap in
    let rest = each view_tests (views_in n size (drop size heap)) in
    let one : size + n * size ≡ suc n * size = omega (arith, suc-mul n size) in
    let clear = decide-clear (view_tests (view_in slot)) (none_first (view_tests (view_in slot)) rest none) in
    let long : length slot ≡ size = length-take-le size heap (omega arith) in (
      subst (λ (m : ℕ). Sound m (view_in slot)) long (shown-sound slot _ (shown slot clear)),
      sound-from n size (drop size heap) (omega (arith, length-drop size heap)) (none_rest (view_tests (view_in slot)) rest none),
    )

pub sound-views : (n size : ℕ) (heap : List ℕ) (ls : List Label) → Surveyed n size heap ls → All (Sound size) (views_in n size heap)
sound-views n size heap ls w = sound-from n size heap w.within (clear-when (each view_tests (views_in n size heap)) w.clear)
