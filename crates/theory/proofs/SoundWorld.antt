-- The invariant of a store in bytes; 1 refuses no call on it.
use Rattle.std.specs.Prelude.{◌≡◌, refl, ◌<◌, ◌≤◌, ◌∷◌, ◌+◌, ◌-◌, ◌*◌}
use Rattle.std.proofs.Common.{sym, ap, ◌∙◌, subst, true≢false, zero-le, length-take, length-drop, ltb-false}
use native.Mathlib.Omega.{arith}
use Rattle.rules.specs.Base.{true, false, List, [], ℕ, zero, suc, length, drop}
use Rattle.theory.specs.Types.{Label}
use Rattle.rules.specs.Refusal.{NoneHolds}
use Rattle.rules.proofs.SettingsLaws.{slot-within}
use Rattle.rules.specs.LabelLaws.{InBounds}
use Rattle.rules.specs.Trailer.{count_in, trailer_tests, entries_from, entries_in}
use Rattle.rules.specs.SlotFile.{bytes_of_slot, file_in, trailer_part, File, View, empty, damaged, holds}
use Rattle.rules.specs.Layout.{capacity_of}
use Rattle.rules.specs.FileMap.{is_empty, record_at}
use Rattle.rules.proofs.FileMapLaws.{is-empty}
use Rattle.rules.specs.Condition1.{refused1}
use Rattle.rules.specs.Condition1Laws.{GoodRecord}
use Rattle.rules.proofs.Condition1Laws.{passes}
use Rattle.rules.specs.Reopen.{in_range, mapped_into}
use Rattle.rules.specs.World.{World, records_of, mappings, slots_of}
use Rattle.theory.proofs.Counting.{count-le}
use Rattle.theory.specs.Newest.{masked_at}
use Rattle.theory.specs.Places.{view_at}
use Rattle.theory.proofs.Places.{holds-lt, record-holds, mark-fits, record-empty, no-damage}
use Rattle.rules.proofs.SlotLaws.{slot-length, views-length, views-at}
use Rattle.rules.specs.SeenLaws.{Seen}
use Rattle.rules.proofs.SeenLaws.{seen}
use Rattle.theory.specs.Picture.{views_of, Said}
use Rattle.theory.specs.SoundWorld.{Tidy, SoundWorld}

-- a slot of the heap has S bytes
pub slot_whole : (w : World) → Tidy w → (k : ℕ) → k < slots_of w → length (bytes_of_slot w.settings.slot_bytes w.heap k) ≡ w.settings.slot_bytes
slot_whole w t k h = slot-length w.settings.slot_bytes w.heap k (slot-within w.settings (length w.heap) k t.limits.heap h)

-- the file that slot k shows, by the slot's bytes
pub shown : (w : World) (k : ℕ) (f : File) → view_at (views_of w) k ≡ holds f → (k < slots_of w) × Seen (bytes_of_slot w.settings.slot_bytes w.heap k) f
shown w k f h =
    let l = holds-lt (views_of w) k f h in
    let m = views-length (slots_of w) w.settings.slot_bytes w.heap in
    let i : k < slots_of w = omega arith in
    (i, seen (bytes_of_slot w.settings.slot_bytes w.heap k) f (sym (views-at (slots_of w) w.settings.slot_bytes w.heap k i) ∙ h))

-- ---- no more entries than the trailer has room for
entries-from-length : (k : ℕ) (bytes : List ℕ) → length (entries_from k bytes) ≤ k
unfolding entries_from
entries-from-length zero bytes = zero-le
entries-from-length (suc k) [] = zero-le
entries-from-length (suc k) (b ∷ bs) = let h = entries-from-length k (drop 16 (b ∷ bs)) in omega arith

trailer-room : (trailer : List ℕ) → NoneHolds (trailer_tests trailer) → length (entries_in trailer) ≤ length trailer
unfolding trailer_tests NoneHolds entries_in
trailer-room trailer n =
    let a : 12 + 16 * count_in trailer ≤ length trailer = ltb-false _ _ n.1.1.0 in
    let b = entries-from-length (count_in trailer) (drop 12 trailer) in
    omega arith

trailer-size : (r : Label) (slot : List ℕ) → length (trailer_part r slot) ≤ r.file_size
trailer-size r slot =
    let a = length-drop r.trailer_offset (file_in r slot) in
    let b = length-take r.file_size (drop 64 slot) in
    omega arith

-- "present over file_size" is no file that is shown
present-fits : (slot : List ℕ) (f : File) → Seen slot f → f.label.present_objects ≤ f.label.file_size
present-fits slot f s =
    let a = s.present in
    let b = trailer-room (trailer_part f.label slot) s.trailer in
    let c = trailer-size f.label slot in
    let d : length f.entries ≡ length (entries_in (trailer_part f.label slot)) = ap length (sym s.entries) in
    omega arith

module _ (w : World) (told : ℕ → Said) (s : SoundWorld w told) where
  -- a slot's label is within 8's bounds
  pub shown-bounds : (k : ℕ) (f : File) → view_at (views_of w) k ≡ holds f → InBounds w.settings.slot_bytes f.label
  shown-bounds k f h =
      let z = shown w k f h in
      subst (λ (n : ℕ). InBounds n f.label) (slot_whole w s.tidy k z.0) z.1.bounds

  live-fits : (k : ℕ) (f : File) → view_at (views_of w) k ≡ holds f → (record_at (records_of w) k).live ≤ capacity_of w.table
  unfolding mapped_into
  live-fits k f h =
      let a = s.sound.counted k f h in
      let b = count-le (λ (l : ℕ). in_range f.label (masked_at l)) (mappings w) in
      let c = s.sound.room in
      omega arith

  good : (k : ℕ) → is_empty (record_at (records_of w) k) ≡ false → GoodRecord w.settings (length w.heap) w.table k (record_at (records_of w) k)
  good k some = go (view_at (views_of w) k) refl
    where
      go : (v : View) → view_at (views_of w) k ≡ v → GoodRecord w.settings (length w.heap) w.table k (record_at (records_of w) k)
      go empty e =
          absurd (true≢false (sym is-empty ∙ ap is_empty (sym (record-empty (views_of w) (records_of w) s.sound.filed k e)) ∙ some))
      go (damaged r) e = absurd (no-damage (views_of w) (records_of w) s.sound.filed k r e)
      go (holds f) e =
          let z = shown w k f e in
          let q = record-holds (views_of w) (records_of w) s.sound.filed k f e in
          subst (GoodRecord w.settings (length w.heap) w.table k) (sym q) (record {
            place = z.0;
            bounds = shown-bounds k f e;
            present = present-fits (bytes_of_slot w.settings.slot_bytes w.heap k) f z.1;
            live = live-fits k f e;
            mark = mark-fits (views_of w) (records_of w) s.sound.filed k f e;
          })

  -- LAW: 1 does not hold
  pub sound-fine : refused1 w ≡ false
  sound-fine = passes w.settings (length w.heap) w.table w.state (record {
    limits = s.tidy.limits;
    settings = s.tidy.settings;
    heap_len = s.tidy.heap_len;
    table-len = s.tidy.table-len;
    form = s.tidy.form;
    next = s.sound.started;
    records = good;
  })
