-- The sound slots as the code has them: by their labels.
use Rattle.std.specs.Prelude.{◌≡◌, refl, Bool, true, false, List, [], ◌∷◌, map, ◌⊎◌, ℕ, zero, suc, ◌*◌, ◌≤◌, ◌<◌, length, get_or, Err, None, Ok, Some}
use Rattle.std.proofs.Common.{sym, ap, ◌∙◌, subst, true≢false, inl, inr, arith}
use Rattle.std.proofs.lemmas.List.{length-map}
use Rattle.rules.specs.FileMap.{empty_label}
use Rattle.rules.specs.SlotFile.{View, empty, damaged, holds, bytes_of_slot, view_in, views_in}
use Rattle.rules.proofs.SlotLaws.{views-length, views-at}
use Rattle.rules.specs.Reopen.{view_tests, file_of, not_rising}
use Rattle.rules.specs.Refusal.{decide}
use Rattle.rules.proofs.RefusalLaws.{decide-none}
use Rattle.slot_file.specs.Slots.{shown_by}
use Rattle.reopen_tests.specs.Labels.{no_file, label_at, label_of, labels_of}
use Rattle.reopen_tests.specs.Shown.{file_seen, FileAt, Shown, shown, label-at}
use Rattle.faults.specs.Types.{Label, Refusal}
use Rattle.faults.specs.Faults.{judged}

-- every slot was judged by itself, and these are the labels of the sound ones
pub record Judged (n size : ℕ) (heap : List ℕ) (ls : List Label) : Type 0 where
  pub within : n * size ≤ length heap
  pub most : n ≤ 256
  pub labels : ls ≡ labels_of (map judged (views_in n size heap))

-- a slot with a sound file
pub record SoundFile (slot : List ℕ) (l : Label) : Type 0 where
  pub file : FileAt slot l
  pub sound : judged (view_in slot) ≡ holds (file_seen l slot)

-- a slot and its label: no sound file and no label, or a sound file's
abbrev pub Judges : List ℕ → Label → Type 0
Judges slot l = ((file_of (judged (view_in slot)) ≡ []) × (l ≡ empty_label)) ⊎ SoundFile slot l

-- a label is a sound file's
pub judges-file : (slot : List ℕ) (l : Label) → Judges slot l → no_file l ≡ false → SoundFile slot l
judges-file slot l (inl (none, e)) q = absurd (true≢false (ap no_file (sym e) ∙ q))
judges-file slot l (inr w) q = w

-- what a slot shows by itself, where 15 need not be asked
module _ (v : View) where
  pub judged-empty : shown_by v ≡ Ok None → shown_by (judged v) ≡ Ok None
  judged-empty e = go v e
    where
      go : (u : View) → shown_by u ≡ Ok None → shown_by (judged u) ≡ Ok None
      go empty z = refl
      go (damaged r) z = absurd (let y : ◌≡◌ {A = ℕ} 0 1 = cc in omega arith)
      go (holds f) z = absurd (let y : ◌≡◌ {A = ℕ} 0 1 = cc in omega arith)

  pub judged-damaged : (r : Refusal) → shown_by v ≡ Err r → shown_by (judged v) ≡ Err r
  judged-damaged r e = go v e
    where
      go : (u : View) → shown_by u ≡ Err r → shown_by (judged u) ≡ Err r
      go empty z = absurd (let y : ◌≡◌ {A = ℕ} 0 1 = cc in omega arith)
      go (damaged q) z = z
      go (holds f) z = absurd (let y : ◌≡◌ {A = ℕ} 0 1 = cc in omega arith)

-- a slot that shows a file has one
pub file-shown : (slot : List ℕ) (l : Label) → shown_by (view_in slot) ≡ Ok (Some l) → FileAt slot l
file-shown slot l e = go (view_in slot) refl e
  where
    go : (v : View) → view_in slot ≡ v → shown_by v ≡ Ok (Some l) → FileAt slot l
    go empty q z = absurd (let y : ◌≡◌ {A = ℕ} 0 1 = cc in omega arith)
    go (damaged r) q z = absurd (let y : ◌≡◌ {A = ℕ} 0 1 = cc in omega arith)
    go (holds f) q z =
        let clear : decide (view_tests (view_in slot)) ≡ (Ok tt) = ap (λ (v : View). decide (view_tests v)) q ∙ decide-none in
        let same : f.label ≡ l = cc in
        by l (ap label_of q ∙ same) (shown slot clear)
      where
        by : (m : Label) → label_of (view_in slot) ≡ m → Shown slot (label_of (view_in slot)) → FileAt slot m
        by m s (inl (v, n)) = absurd (let y : ◌≡◌ {A = ℕ} 0 1 = cc in omega arith)
        by m s (inr w) = subst (FileAt slot) s w

-- of one slot
pub judges : (slot : List ℕ) → Judges slot (label_of (judged (view_in slot)))
judges slot = go (view_in slot) refl
  where
    go : (v : View) → view_in slot ≡ v → Judges slot (label_of (judged (view_in slot)))
    go empty e = inl (ap (λ (v : View). file_of (judged v)) e, ap (λ (v : View). label_of (judged v)) e)
    go (damaged r) e = inl (ap (λ (v : View). file_of (judged v)) e, ap (λ (v : View). label_of (judged v)) e)
    go (holds f) e = by (not_rising f.entries) refl
      where
        by : (t : Bool) → not_rising f.entries ≡ t → Judges slot (label_of (judged (view_in slot)))
        by true q = inl (rw (e, q) refl, rw (e, q) refl)
        by false q =
            let same : judged (view_in slot) ≡ view_in slot = rw (e, q) refl in
            let clear : decide (view_tests (view_in slot)) ≡ (Ok tt) = ap (λ (v : View). decide (view_tests v)) e ∙ decide-none in
            subst (λ (v : View). Judges slot (label_of v)) (sym same) (seen (label_of (view_in slot)) same (shown slot clear))
          where
            seen : (l : Label) → judged (view_in slot) ≡ view_in slot → Shown slot l → Judges slot l
            seen l same (inl (v, n)) = inl (ap file_of (same ∙ v), n)
            seen l same (inr w) = inr (record { file = w; sound = same ∙ w.seen })

-- of slot k
pub judged-at : (views : List View) (k : ℕ) → get_or (map judged views) k empty ≡ judged (get_or views k empty)
judged-at [] k = refl
judged-at (v ∷ vs) zero = refl
judged-at (v ∷ vs) (suc k) = judged-at vs k

-- slot k and its label
pub judges-at : (n size : ℕ) (heap : List ℕ) (ls : List Label) → Judged n size heap ls → (k : ℕ) → k < n → Judges (bytes_of_slot size heap k) (label_at ls k)
unfolding labels_of
judges-at n size heap ls w k h =
    let views = views_in n size heap in
    let low : k < length (map judged views) = omega (arith, views-length n size heap, length-map views judged) in
    let at = views-at n size heap k h in
    let label : label_at ls k ≡ label_of (judged (view_in (bytes_of_slot size heap k))) =
    ap (λ (ms : List Label). label_at ms k) w.labels ∙ label-at (map judged views) _ k low ∙ ap label_of (judged-at views k ∙ ap judged at) in
    subst (Judges (bytes_of_slot size heap k)) (sym label) (judges (bytes_of_slot size heap k))
