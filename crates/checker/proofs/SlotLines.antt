-- A slot's lines by its label, and the slots one behind the other.
use Rattle.std.specs.Prelude.{◌≡◌, refl, Bool, true, false, ◌||◌, ◌≤◌, ◌<◌, ◌∷◌, ◌++◌, ◌+◌}
use Rattle.std.proofs.Common.{sym, ap₂, ◌∙◌, subst, true≢false, append-nil, inl, inr, arith, add-one, take-suc}
use Rattle.std.proofs.Math.Path.{ap}
use Rattle.std.proofs.lemmas.List.{length-map, take-append-le}
use Rattle.std.specs.List.{list_any}
use Rattle.rules.specs.Base.{List, [], map, ℕ, zero, suc, length, get_or, take, drop, ltb, any, each}
use Rattle.rules.specs.BaseLaws.{All}
use Rattle.rules.proofs.BaseLaws.{all_take, each_append}
use Rattle.rules.proofs.TurnLaws.{left-next, left-none}
use Rattle.rules.specs.SlotFile.{File, View, empty, damaged, holds, bytes_of_slot, view_in, views_in}
use Rattle.rules.proofs.SlotLaws.{views-length, views-at}
use Rattle.rules.specs.Reopen.{file_of, files_in, meets, table_of}
use Rattle.slot_file.specs.Slots.{shown_by}
use Rattle.reopen_tests.specs.Labels.{no_file, label_at, label_of, labels_of, clash}
use Rattle.reopen_tests.specs.Shown.{label-some}
use Rattle.faults.specs.Faults.{judged, line, line_if, file_faults, meets_earlier, slot_faults, faults_from, closing}
use Rattle.faults.specs.Judging.{Judged, Judges, judges, judged-at}
use Rattle.checker.specs.Types.{Label, TableRoom, Overlap, Nowhere}
use Rattle.checker.specs.SlotLines.{own_line, slot_lines, slots_judged, earlier_to, lines_from, Labelled}

-- ---- one slot and its label
module _ (slot : List ℕ) (l : Label) where
  -- no label: no sound file
  pub judges-none : Judges slot l → no_file l ≡ true → file_of (judged (view_in slot)) ≡ []
  judges-none (inl (none, e)) q = none
  judges-none (inr w) q = absurd (true≢false (sym q ∙ label-some (length slot) l w.file.bounds))

no-files : {A : Type 0} (f : File) → f ∷ [] ≡ [] → A
no-files f e = absurd (let z : ◌≡◌ {A = ℕ} 1 0 = ap length e in omega arith)

pub own-lines : (slot : ℕ) (met : Bool) (v : View) → file_of v ≡ [] → slot_lines slot met v ≡ own_line slot (shown_by v)
unfolding slot_lines
own-lines slot met empty e = refl
own-lines slot met (damaged r) e = refl
own-lines slot met (holds f) e = no-files f e

pub file-slot-lines : (slot : ℕ) (met : Bool) (v : View) (f : File) → v ≡ holds f → slot_lines slot met v ≡ file_faults slot f ++ line_if met (line slot Overlap Nowhere)
unfolding slot_lines
file-slot-lines slot met v f e = ap (slot_lines slot met) e

-- it is what the list has of the slot
pub slot-lines : (slot : ℕ) (earlier : List File) (met : Bool) (v : View) → ((f : File) → v ≡ holds f → met ≡ meets_earlier earlier f)
    → slot_lines slot met v ≡ slot_faults slot earlier v
unfolding slot_lines slot_faults
slot-lines slot earlier met empty h = refl
slot-lines slot earlier met (damaged r) h = refl
slot-lines slot earlier met (holds f) h = ap (λ (t : Bool). file_faults slot f ++ line_if t (line slot Overlap Nowhere)) (h f refl)

-- ---- the sound files before a slot
earlier-files : (k : ℕ) (vs : List View) → k ≤ length vs → earlier_to k vs ≡ files_in (take k vs)
unfolding earlier_to files_in each
earlier-files zero vs h = refl
earlier-files (suc k) vs h =
    let v = get_or vs k empty in
    ap (λ (fs : List File). fs ++ file_of v) (earlier-files k vs (omega arith))
    ∙ ap (λ (fs : List File). each file_of (take k vs) ++ fs) (sym (append-nil (file_of v)))
    ∙ sym (each_append file_of (take k vs) (v ∷ []))
    ∙ ap (each file_of) (sym (take-suc vs k empty h))

slot-labelled : (slot : List ℕ) → Labelled (judged (view_in slot))
slot-labelled slot = go (label_of (judged (view_in slot))) (judges slot)
  where
    none : (v : View) → file_of v ≡ [] → Labelled v
    none empty e = tt
    none (damaged r) e = tt
    none (holds f) e = no-files f e

    go : (l : Label) → Judges slot l → Labelled (judged (view_in slot))
    go l (inl (e, n)) = none (judged (view_in slot)) e
    go l (inr w) = subst Labelled (sym w.sound) (label-some (length slot) l w.file.bounds)

slots-labelled : (n size : ℕ) (heap : List ℕ) → All Labelled (slots_judged n size heap)
unfolding views_in
slots-labelled zero size heap = tt
slots-labelled (suc n) size heap = (slot-labelled (take size heap), slots-labelled n size (drop size heap))

clash-files : (l : Label) → no_file l ≡ false → (vs : List View) → All Labelled vs
    → any (λ (m : Label). clash m l) (map label_of vs) ≡ any (λ (g : File). meets g.label l) (files_in vs)
unfolding files_in each any
clash-files l some [] a = refl
clash-files l some (empty ∷ vs) a = clash-files l some vs a.1
clash-files l some (damaged r ∷ vs) a = clash-files l some vs a.1
clash-files l some (holds g ∷ vs) a =
    let both : clash g.label l ≡ meets g.label l = rw (a.0, some) refl in
    ap₂ ◌||◌ both (clash-files l some vs a.1)

map-take : {A B : Type 0} (f : A → B) (k : ℕ) (xs : List A) → take k (map f xs) ≡ map f (take k xs)
map-take f zero xs = refl
map-take f (suc k) [] = refl
map-take f (suc k) (x ∷ xs) = ap (λ (ys : List _). f x ∷ ys) (map-take f k xs)

labels-take : (k : ℕ) (vs : List View) → k ≤ length vs → take k (labels_of vs) ≡ map label_of (take k vs)
unfolding labels_of
labels-take k vs h = take-append-le k (map label_of vs) _ (omega (arith, length-map vs label_of)) ∙ map-take label_of k vs

module _ (n size : ℕ) (heap : List ℕ) (ls : List Label) (w : Judged n size heap ls) (k : ℕ) (h : k < n) where
  abbrev views : List View
  views = slots_judged n size heap

  views-many : length views ≡ n
  views-many = length-map (views_in n size heap) judged ∙ views-length n size heap

  -- slot k's view
  pub view-is : get_or views k empty ≡ judged (view_in (bytes_of_slot size heap k))
  view-is = judged-at (views_in n size heap) k ∙ ap judged (views-at n size heap k h)

  -- a sound file meets an earlier one exactly if the labels clash
  pub meets-by-label : Judges (bytes_of_slot size heap k) (label_at ls k) → (f : File) → judged (view_in (bytes_of_slot size heap k)) ≡ holds f
      → any (λ (m : Label). clash m (label_at ls k)) (take k ls) ≡ meets_earlier (earlier_to k views) f
  meets-by-label (inl (none, e)) f v = no-files f (sym (ap file_of v) ∙ none)
  meets-by-label (inr s) f v =
      let l = label_at ls k in
      let slot = bytes_of_slot size heap k in
      let same : l ≡ f.label = ap label_of (sym s.sound ∙ v) in
      ap (λ (ms : List Label). any (λ (m : Label). clash m l) (take k ms)) w.labels
      ∙ ap (any (λ (m : Label). clash m l)) (labels-take k views (omega (arith, views-many)))
      ∙ clash-files l (label-some (length slot) l s.file.bounds) (take k views) (all_take Labelled k views (slots-labelled n size heap))
      ∙ ap₂ (λ (m : Label) (fs : List File). any (λ (g : File). meets g.label m) fs) same (sym (earlier-files k views (omega (arith, views-many))))

-- the library's word for it
pub any-list : {A : Type 0} (f : A → Bool) (xs : List A) → list_any f xs ≡ any f xs
unfolding any
any-list f [] = refl
any-list f (x ∷ xs) = ap (λ (t : Bool). f x || t) (any-list f xs)

-- ---- slot by slot
module _ (vs : List View) (k : ℕ) where
  -- slot k's lines, and those behind it
  pub lines_next : k < length vs → lines_from k vs ≡ slot_faults k (earlier_to k vs) (get_or vs k empty) ++ lines_from (k + 1) vs
  unfolding faults_from earlier_to
  lines_next h =
      let v = get_or vs k empty in
      let earlier = earlier_to k vs in
      ap (faults_from k earlier) (left-next vs k empty h)
      ∙ ap (λ (m : ℕ). slot_faults k earlier v ++ faults_from m (earlier_to m vs) (drop (k + 1) vs)) (sym (add-one k))

  -- behind the last slot there is none
  pub lines_none : length vs ≤ k → lines_from k vs ≡ []
  unfolding faults_from
  lines_none h = ap (faults_from k (earlier_to k vs)) (left-none vs k h)

-- from slot 0 on
pub lines-all : (vs : List View) → lines_from 0 vs ≡ faults_from 0 [] vs
unfolding earlier_to
lines-all vs = refl

-- "one closing line 6 with slot N"
pub closing-line : (room n size : ℕ) (heap : List ℕ) → let vs = slots_judged n size heap in line_if (ltb room (length (table_of (files_in vs)))) (line n TableRoom Nowhere) ≡ closing room vs
unfolding closing
closing-line room n size heap =
    let vs = slots_judged n size heap in
    ap (λ (m : ℕ). line_if (ltb room (length (table_of (files_in vs)))) (line m TableRoom Nowhere)) (sym (length-map (views_in n size heap) judged ∙ views-length n size heap))
