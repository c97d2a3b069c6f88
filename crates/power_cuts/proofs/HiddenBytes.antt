-- Request P8: "file, then label bytes 2 to 64, then label byte 1": until the last store the file is not seen, and the slots show what they showed.
use Rattle.std.specs.Prelude.{◌≡◌, ◌⊎◌, ◌<◌, ◌≤◌, ◌∷◌, ◌++◌, ◌+◌, ◌*◌}
use Rattle.std.proofs.Math.Path.{refl, subst}
use Rattle.std.proofs.Common.{sym, ap, ◌∙◌, append_assoc, inl, inr, arith, length-append, length-drop, length-take-le, get_or-set_other, ext_get_or}
use Rattle.std.proofs.lemmas.List.{take-append-le}
use Rattle.std.proofs.Math.Seq.{get_or-take, get_or-drop}
use Rattle.rules.specs.Base.{List, [], ℕ, suc, length, get_or, set, take, drop}
use Rattle.rules.specs.BaseLaws.{All}
use Rattle.rules.proofs.BaseLaws.{order, same?, all_append, all_take}
use Rattle.rules.specs.Settings.{slots_in}
use Rattle.rules.specs.SettingsLaws.{HeapInRange}
use Rattle.rules.proofs.SettingsLaws.{heap-whole}
use Rattle.rules.specs.Label.{label_bytes}
use Rattle.rules.proofs.LabelLaws.{label-length}
use Rattle.rules.specs.SlotFile.{bytes_of_slot, View, empty, view_in, views_in}
use Rattle.rules.proofs.SlotLaws.{slot-length, slots_apart, views-length, views-at}
use Rattle.rules.specs.Ops.{Op, file_bytes}
use Rattle.rules.specs.Stores.{Store, made, stores_of, file_stores}
use Rattle.rules.proofs.StoreLaws.{made-length, stores-length}
use Rattle.rules.specs.Install.{new_label, new_slot, new_lsn, stores_for}
use Rattle.rules.specs.World.{World, records_of, mappings, slots_of}
use Rattle.theory.specs.Picture.{views_of, Said}
use Rattle.theory.specs.Sound.{Sound}
use Rattle.theory.specs.SoundWorld.{bounds_of, SoundWorld}
use Rattle.theory.specs.Adding.{Fitting}
use Rattle.theory.proofs.Adding.{free-slot}
use Rattle.history_theory.proofs.Fresh.{blank-view}
use Rattle.power_cuts.proofs.FirstByte.{empty-first}
use Rattle.power_cuts.specs.Enduring.{StandsOn}
use Rattle.power_cuts.specs.Hidden.{Within, with_heap, before_last}

-- bytes one behind the other
run-within : (low high at : ℕ) (bs : List ℕ) → low ≤ at → at + length bs ≤ high → All (Within low high) (stores_of at bs)
unfolding stores_of
run-within low high at [] a b = tt
run-within low high at (c ∷ bs) a b = ((a, omega arith), run-within low high (suc at) bs (omega arith) (omega arith))

-- every other byte is as it was
untouched : (low high : ℕ) (ss : List Store) (heap : List ℕ) → All (Within low high) ss → (i : ℕ) → (i < low) ⊎ (high ≤ i) → get_or (made ss heap) i 0 ≡ get_or heap i 0
unfolding made
untouched low high [] heap a i h = refl
untouched low high (s ∷ ss) heap a i h =
    untouched low high ss (set heap s.at s.byte) a.1 i h ∙ get_or-set_other heap s.at i s.byte 0 (other h)
  where
    other : (i < low) ⊎ (high ≤ i) → i ≡ s.at → ⊥
    other (inl l) e = let b = a.0.0 in omega arith
    other (inr l) e = let b = a.0.1 in omega arith

-- ---- slot k's bytes behind the first change, and it is empty
module _ (n size : ℕ) (heap now : List ℕ) (k : ℕ) (low : k < n) (whole : n * size ≤ length heap) (some : 0 < size) (same : length now ≡ length heap)
    (kept : (i : ℕ) → (i < suc (k * size)) ⊎ (k * size + size ≤ i) → get_or now i 0 ≡ get_or heap i 0) where
  slot-byte : (bytes : List ℕ) (j i : ℕ) → i < size → get_or (bytes_of_slot size bytes j) i 0 ≡ get_or bytes (j * size + i) 0
  unfolding bytes_of_slot
  slot-byte bytes j i h = get_or-take size (drop (j * size) bytes) i 0 h ∙ get_or-drop (j * size) bytes i 0

  other-slot : (j : ℕ) → j < n → (j ≡ k → ⊥) → bytes_of_slot size now j ≡ bytes_of_slot size heap j
  other-slot j h apart =
      let a = slots_apart size j n h in
      let l : length (bytes_of_slot size now j) ≡ size = slot-length size now j (omega arith) in
      let m : length (bytes_of_slot size heap j) ≡ size = slot-length size heap j (omega arith) in
      ext_get_or 0 (bytes_of_slot size now j) (bytes_of_slot size heap j) (l ∙ sym m) (λ i q.
      let b : i < size = omega arith in
      slot-byte now j i b ∙ kept (j * size + i) (go i b (order j k)) ∙ sym (slot-byte heap j i b))
    where
      go : (i : ℕ) → i < size → (j < k) ⊎ ((j ≡ k) ⊎ (k < j)) → (j * size + i < suc (k * size)) ⊎ (k * size + size ≤ j * size + i)
      go i b (inl c) = let d = slots_apart size j k c in inl (omega arith)
      go i b (inr (inl c)) = absurd (apart c)
      go i b (inr (inr c)) = let d = slots_apart size k j c in inr (omega arith)

  still-empty : view_in (bytes_of_slot size heap k) ≡ empty → view_in (bytes_of_slot size now k) ≡ empty
  still-empty e =
      blank-view (bytes_of_slot size now k)
      (slot-byte now k 0 some ∙ kept (k * size + 0) (inl (omega arith)) ∙ sym (slot-byte heap k 0 some) ∙ empty-first (bytes_of_slot size heap k) e)

  -- the slots show what they showed
  pub views-kept : get_or (views_in n size heap) k empty ≡ empty → views_in n size now ≡ views_in n size heap
  views-kept e =
      ext_get_or empty (views_in n size now) (views_in n size heap) (views-length n size now ∙ sym (views-length n size heap))
      (λ j q. let l = views-length n size now in at j (omega arith) (same? j k))
    where
      at : (j : ℕ) → j < n → (j ≡ k) ⊎ (j ≡ k → ⊥) → get_or (views_in n size now) j empty ≡ get_or (views_in n size heap) j empty
      at j h (inl q) =
          rw q (views-at n size now k low ∙ still-empty (sym (views-at n size heap k low) ∙ e) ∙ sym e)
      at j h (inr q) = views-at n size now j h ∙ ap view_in (other-slot j h q) ∙ sym (views-at n size heap j h)

-- LAW: the invariant looks at the heap through its slots' views alone
pub sound-heap : (w : World) (told : ℕ → Said) → SoundWorld w told → (heap : List ℕ) → length heap ≡ length w.heap
    → views_in (slots_of w) w.settings.slot_bytes heap ≡ views_of w → SoundWorld (with_heap w heap) told
sound-heap w told s heap n e =
    let t = s.tidy in
    let views : views_of (with_heap w heap) ≡ views_of w = ap (λ (m : ℕ). views_in (slots_in w.settings m) w.settings.slot_bytes heap) n ∙ e in
    record {
      tidy = record {
        limits = record { settings = t.limits.settings; heap = subst (HeapInRange w.settings) (sym n) t.limits.heap; table = t.limits.table };
        settings = t.settings;
        heap_len = n ∙ t.heap_len;
        table-len = t.table-len;
        form = t.form;
      };
      sound =
          subst (λ (vs : List View). Sound (bounds_of w) (record { views = vs; records = records_of w; table = mappings w; next = w.state.next_position }) told)
          (sym views) s.sound;
    }

-- "then label byte 1"
pub last-store : (start : ℕ) (label file : List ℕ) → file_stores start label file ≡ before_last start label file ++ stores_of start (take 1 label)
unfolding file_stores
last-store start label file = sym (append_assoc (stores_of (start + 64) file) (stores_of (suc start) (drop 1 label)) (stores_of start (take 1 label)))

-- a run that is not whole has none of it
not-whole : (start k : ℕ) (label file : List ℕ) → length label ≡ 64 → k < length (file_stores start label file)
    → take k (file_stores start label file) ≡ take k (before_last start label file)
not-whole start k label file l h =
    let e = last-store start label file in
    let a : length (file_stores start label file) ≡ length (before_last start label file) + 1
    = ap length e ∙ length-append (before_last start label file) (stores_of start (take 1 label))
    ∙ ap (λ (m : ℕ). length (before_last start label file) + m) (stores-length start (take 1 label) ∙ length-take-le 1 label (omega arith)) in
    ap (take k) e ∙ take-append-le k (before_last start label file) (stores_of start (take 1 label)) (omega arith)

-- and stores behind the slot's first byte alone
behind-first : (start size : ℕ) (label file : List ℕ) → length label ≡ 64 → 64 + length file ≤ size → All (Within (suc start) (start + size)) (before_last start label file)
behind-first start size label file l fit =
    let d = length-drop 1 label in
    all_append (Within (suc start) (start + size)) (stores_of (start + 64) file) (stores_of (suc start) (drop 1 label))
    (run-within (suc start) (start + size) (start + 64) file (omega arith) (omega arith))
    (run-within (suc start) (start + size) (suc start) (drop 1 label) (omega arith) (omega arith))

module _ (w : World) (told : ℕ → Said) (s : SoundWorld w told) (bit g : ℕ) (os : List Op) (f : Fitting bit g w os) where
  -- LAW: a file's run cut before its last store leaves the store that was there
  pub file-hidden : (k : ℕ) → k < length (stores_for (new_label (new_lsn bit w) g os) w os)
      → StandsOn w (made (take k (stores_for (new_label (new_lsn bit w) g os) w os)) w.heap) told
  unfolding stores_for
  file-hidden k h =
      let S = w.settings.slot_bytes in
      let start = new_slot w * S in
      let new = new_label (new_lsn bit w) g os in
      let run = take k (file_stores start (label_bytes new) (file_bytes os)) in
      let free = free-slot w told s f.free in
      let low = s.tidy.limits.settings.slot-low in
      let whole = heap-whole w.settings (length w.heap) s.tidy.limits.heap in
      let inside : All (Within (suc start) (start + S)) (take k (file_stores start (label_bytes new) (file_bytes os)))
      = subst (All (Within (suc start) (start + S))) (sym (not-whole start k (label_bytes new) (file_bytes os) (label-length new) h))
      (all_take (Within (suc start) (start + S)) k (before_last start (label_bytes new) (file_bytes os)) (behind-first start S (label_bytes new) (file_bytes os) (label-length new) f.slot)) in
      record {
        store = with_heap w (made run w.heap);
        alike = record { settings = refl; table = refl };
        bytes = refl;
        sound = sound-heap w told s (made run w.heap) (made-length run w.heap)
            (views-kept (slots_of w) S w.heap (made run w.heap) (new_slot w) free.0 (omega arith) (omega arith) (made-length run w.heap)
            (untouched (suc start) (start + S) run w.heap inside) free.1);
      }
