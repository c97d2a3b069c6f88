-- Prune on a store of the invariant.
use Rattle.std.specs.Prelude.{◌≡◌, ◌<◌}
use Rattle.std.proofs.Math.Path.{refl, ap, subst}
use Rattle.std.proofs.Common.{sym, ◌∙◌, true≢false, inl, inr, zero-add, arith}
use Rattle.std.proofs.Math.ListN.{get_or-eq_default}
use borrow.Author.Tests.{ltb-true, ltb-false}
use Rattle.rules.specs.Base.{Bool, true, false, List, [], ℕ, length, ltb, pick}
use Rattle.rules.specs.Refusal.{decide}
use Rattle.rules.specs.Settings.{slots_in}
use Rattle.rules.specs.SettingsLaws.{HeapInRange}
use Rattle.rules.proofs.SettingsLaws.{heap-whole}
use Rattle.rules.specs.SlotFile.{File, View, empty, damaged, holds, views_in}
use Rattle.rules.proofs.SlotLaws.{views-length}
use Rattle.rules.specs.Stores.{Store, made}
use Rattle.rules.proofs.StoreLaws.{made-length}
use Rattle.rules.specs.FileMap.{empty_record, is_empty, record_at}
use Rattle.rules.proofs.FileMapLaws.{is-empty}
use Rattle.rules.specs.Prune.{is_dead, emptied_from, prune_stores, pruned, prune_call}
use Rattle.rules.proofs.PruneLaws.{dead, emptied-length, emptied-at, prune-stores, prune-view}
use Rattle.rules.specs.World.{World, records_of, slots_of, accepted, After}
use Rattle.theory.specs.Places.{view_at}
use Rattle.theory.proofs.Places.{holds-lt, record-empty, no-damage}
use Rattle.theory.specs.Picture.{views_of, picture_of, Said}
use Rattle.theory.specs.Emptied.{KeptOrEmptied, Emptied}
use Rattle.theory.proofs.Emptied.{sound-emptied}
use Rattle.theory.specs.SoundWorld.{Tidy, bounds_of, SoundWorld}
use Rattle.theory.proofs.SoundWorld.{sound-fine}

pick_same : {A : Type 0} (b : Bool) (a : A) → a ≡ pick b a a
pick_same true a = refl
pick_same false a = refl

module _ (w : World) (told : ℕ → Said) (s : SoundWorld w told) where
  -- a record that is not empty is a file's, in a slot of the heap
  pub file-slot : (k : ℕ) → is_empty (record_at (records_of w) k) ≡ false → (f : File) × (view_at (views_of w) k ≡ holds f) × (k < slots_of w)
  file-slot k h = go (view_at (views_of w) k) refl
    where
      go : (v : View) → view_at (views_of w) k ≡ v → (f : File) × (view_at (views_of w) k ≡ holds f) × (k < slots_of w)
      go empty e = absurd (true≢false (sym is-empty ∙ ap is_empty (sym (record-empty (views_of w) (records_of w) s.sound.filed k e)) ∙ h))
      go (damaged r) e = absurd (no-damage (views_of w) (records_of w) s.sound.filed k r e)
      go (holds f) e =
          let l = holds-lt (views_of w) k f e in
          let n = views-length (slots_of w) w.settings.slot_bytes w.heap in
          (f, e, omega arith)

  -- the view of a slot after: empty where its file is dead
  pub view-after : (k : ℕ) → k < slots_of w → view_at (views_of (pruned w)) k ≡ pick (is_dead w.claims k (record_at (records_of w) k)) empty (view_at (views_of w) k)
  unfolding pruned
  view-after k h =
      let n = heap-whole w.settings (length w.heap) s.tidy.limits.heap in
      let p = s.tidy.limits.settings.slot-low in
      let l = views-length (slots_of w) w.settings.slot_bytes w.heap in
      let f = s.sound.filed.fits in
      ap (λ (m : ℕ). view_at (views_in (slots_in w.settings m) w.settings.slot_bytes (pruned w).heap) k) (made-length (prune_stores w) w.heap)
      ∙ ap (λ (ss : List Store). view_at (views_in (slots_of w) w.settings.slot_bytes (made ss w.heap)) k) (prune-stores w)
      ∙ prune-view (slots_of w) w.settings.slot_bytes (omega arith) w.claims (records_of w) w.heap (λ j e. (file-slot j e).2) (omega arith) (omega arith) k h

  length-after : length (views_of (pruned w)) ≡ slots_of w
  unfolding pruned
  length-after =
      views-length (slots_of (pruned w)) w.settings.slot_bytes (pruned w).heap
      ∙ ap (slots_in w.settings) (made-length (prune_stores w) w.heap)

  -- its record: emptied there
  pub record-after : (k : ℕ) → record_at (records_of (pruned w)) k ≡ pick (is_dead w.claims k (record_at (records_of w) k)) empty_record (record_at (records_of w) k)
  unfolding pruned
  record-after k = go (ltb k (length (records_of w))) refl
    where
      go : (b : Bool) → ltb k (length (records_of w)) ≡ b
          → record_at (emptied_from w.claims 0 (records_of w)) k ≡ pick (is_dead w.claims k (record_at (records_of w) k)) empty_record (record_at (records_of w) k)
      go true h =
          emptied-at w.claims 0 (records_of w) k (ltb-true k (length (records_of w)) h)
          ∙ ap (λ (j : ℕ). pick (is_dead w.claims j (record_at (records_of w) k)) empty_record (record_at (records_of w) k)) (zero-add k)
      go false h =
          let l = ltb-false k (length (records_of w)) h in
          let n = emptied-length w.claims 0 (records_of w) in
          get_or-eq_default (emptied_from w.claims 0 (records_of w)) empty_record {n = k} (omega arith)
          ∙ pick_same (is_dead w.claims k (record_at (records_of w) k)) empty_record
          ∙ ap (pick (is_dead w.claims k (record_at (records_of w) k)) empty_record) (sym (get_or-eq_default (records_of w) empty_record {n = k} l))

  -- each slot is as it was, or its dead file is gone
  pub each-slot : (k : ℕ) → KeptOrEmptied (picture_of w) (picture_of (pruned w)) k
  each-slot k = go (is_dead w.claims k (record_at (records_of w) k)) refl (ltb k (slots_of w)) refl
    where
      go : (b : Bool) → is_dead w.claims k (record_at (records_of w) k) ≡ b → (c : Bool) → ltb k (slots_of w) ≡ c → KeptOrEmptied (picture_of w) (picture_of (pruned w)) k
      go true e c h =
          inr (
            (dead w.claims k (record_at (records_of w) k) e).live,
            view-after k (file-slot k (dead w.claims k (record_at (records_of w) k) e).file).2 ∙ ap (λ (b : Bool). pick b empty (view_at (views_of w) k)) e,
            record-after k ∙ ap (λ (b : Bool). pick b empty_record (record_at (records_of w) k)) e,
          )
      go false e true h =
          inl (
            view-after k (ltb-true k (slots_of w) h) ∙ ap (λ (b : Bool). pick b empty (view_at (views_of w) k)) e,
            record-after k ∙ ap (λ (b : Bool). pick b empty_record (record_at (records_of w) k)) e,
          )
      go false e false h =
          let l = ltb-false k (slots_of w) h in
          let n = length-after in
          let m = views-length (slots_of w) w.settings.slot_bytes w.heap in
          inl (
            get_or-eq_default (views_of (pruned w)) empty {n = k} (omega arith) ∙ sym (get_or-eq_default (views_of w) empty {n = k} (omega arith)),
            record-after k ∙ ap (λ (b : Bool). pick b empty_record (record_at (records_of w) k)) e,
          )

  emptied-pruned : Emptied (picture_of w) (picture_of (pruned w))
  unfolding pruned
  emptied-pruned =
      let a = emptied-length w.claims 0 (records_of w) in
      let b = s.sound.filed.fits in
      let c = length-after in
      let d = views-length (slots_of w) w.settings.slot_bytes w.heap in
      record { fits = omega arith; sized = a; each = each-slot; table = refl; next = refl }

  tidy-pruned : Tidy (pruned w)
  unfolding pruned
  tidy-pruned =
      let t = s.tidy in
      let n = made-length (prune_stores w) w.heap in
      record {
        limits = record { settings = t.limits.settings; heap = subst (HeapInRange w.settings) (sym n) t.limits.heap; table = t.limits.table };
        settings = t.settings;
        heap_len = n ∙ t.heap_len;
        table-len = t.table-len;
        form = t.form;
      }

  -- LAW: the invariant after files of no live entry are pruned
  pub sound-pruned : SoundWorld (pruned w) told
  unfolding pruned
  sound-pruned = record { tidy = tidy-pruned; sound = sound-emptied (bounds_of w) (picture_of w) told s.sound (picture_of (pruned w)) emptied-pruned }

  -- LAW: prune is accepted, and keeps the invariant
  pub prune-accepted : prune_call w ≡ record { answer = accepted []; world = pruned w }
  unfolding prune_call decide
  prune-accepted = rw (sound-fine w told s) refl

  -- the call
  pub sound-prune : SoundWorld (prune_call w).world told
  sound-prune = subst (λ (a : After). SoundWorld a.world told) (sym prune-accepted) sound-pruned
