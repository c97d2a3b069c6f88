-- A file of operations added to a store in bytes: the invariant holds again.
use Rattle.std.specs.Prelude.{◌≡◌, refl, ◌⊎◌, ◌<◌, ◌+◌, ◌-◌, ◌^◌}
use Rattle.std.proofs.Common.{sym, ◌∙◌, true≢false, inl, inr}
use Rattle.std.proofs.Math.Path.{ap, subst}
use native.Mathlib.Omega.{arith}
use Rattle.rules.specs.Base.{true, List, ℕ, length, set}
use Rattle.theory.specs.Types.{Record}
use Rattle.disk_location.specs.Locations.{masked_of}
use Rattle.disk_location.proofs.LocationLaws.{masked_plain, masked-batch, masked-pos}
use Rattle.rules.specs.Settings.{slots_in}
use Rattle.rules.specs.SettingsLaws.{HeapInRange}
use Rattle.rules.proofs.SettingsLaws.{heap-whole}
use Rattle.rules.specs.Ops.{Op, entries_of}
use Rattle.rules.proofs.OpsLaws.{file-length}
use Rattle.rules.specs.SlotFile.{View, empty, damaged, holds, views_in}
use Rattle.rules.proofs.StoreLaws.{made-length}
use Rattle.rules.proofs.SlotLaws.{views-length}
use Rattle.rules.specs.WrittenLaws.{Writable, file_of_ops}
use Rattle.rules.proofs.WrittenLaws.{views-made}
use Rattle.rules.specs.Table.{insert_all}
use Rattle.rules.proofs.TableLaws.{rising-insert-all}
use Rattle.rules.specs.Layout.{capacity_of}
use Rattle.rules.specs.LayoutLaws.{Used}
use Rattle.rules.proofs.LayoutLaws.{laid-out-capacity, laid-out-even, used-laid-out, form-laid-out}
use Rattle.rules.specs.FileMap.{is_empty, record_at}
use Rattle.rules.proofs.FileMapLaws.{not-empty, lowest-empty}
use Rattle.rules.specs.Install.{new_label, new_record, new_slot, new_lsn, records_with, stores_for, table_with, next_with, installed, empty_of}
use Rattle.rules.specs.World.{World, records_of, mappings, slots_of}
use Rattle.theory.proofs.Entries.{absolute-has}
use Rattle.theory.specs.Places.{view_at}
use Rattle.theory.proofs.Places.{record-holds, no-damage}
use Rattle.theory.specs.Losing.{rows_for}
use Rattle.theory.specs.Picture.{Picture, views_of, picture_of, Said, file_says, added}
use Rattle.theory.specs.Sound.{Sound}
use Rattle.theory.proofs.Sound.{table-rising}
use Rattle.theory.specs.Installed.{over, Addable}
use Rattle.theory.proofs.Installed.{filed-added, newest-added, sound-added}
use Rattle.theory.proofs.Reopened.{rows-used}
use Rattle.theory.proofs.Told.{ids-fit}
use Rattle.theory.specs.SoundWorld.{Tidy, bounds_of, SoundWorld}
use Rattle.theory.specs.Adding.{Fitting}

module _ (w : World) (told : ℕ → Said) (s : SoundWorld w told) where
  -- the lowest empty slot shows no file
  pub free-slot : 0 < empty_of w → (new_slot w < slots_of w) × (view_at (views_of w) (new_slot w) ≡ empty)
  free-slot h =
      let l = lowest-empty (slots_of w) (records_of w) h in
      (l.place, go (view_at (views_of w) (new_slot w)) refl l.free)
    where
      go : (v : View) → view_at (views_of w) (new_slot w) ≡ v → is_empty (record_at (records_of w) (new_slot w)) ≡ true → view_at (views_of w) (new_slot w) ≡ empty
      go empty e f = e
      go (damaged r) e f = absurd (no-damage (views_of w) (records_of w) s.sound.filed (new_slot w) r e)
      go (holds g) e f =
          let q : (record_at (records_of w) (new_slot w)).label.lsn ≡ g.label.lsn = ap (λ (r : Record). r.label.lsn) (record-holds (views_of w) (records_of w) s.sound.filed (new_slot w) g e) in
          let a = masked-pos g.label.lsn (s.sound.filed.made (new_slot w) g e).placed in
          absurd (true≢false (sym f ∙ not-empty (record_at (records_of w) (new_slot w)) (omega arith)))

  module _ (bit g : ℕ) (os : List Op) (f : Fitting bit g w os) where
    base : (masked_of (new_lsn bit w) ≡ w.state.next_position) × (new_lsn bit w < 2 ^ 63)
    base = go f.kind
      where
        go : (bit ≡ 0) ⊎ (bit ≡ 2 ^ 62) → (masked_of (new_lsn bit w) ≡ w.state.next_position) × (new_lsn bit w < 2 ^ 63)
        go (inl e) =
            let p = f.positions in
            let z : new_lsn bit w ≡ w.state.next_position = omega arith in
            (ap masked_of z ∙ masked_plain w.state.next_position (omega arith), omega arith)
        go (inr e) =
            let p = f.positions in
            (ap (λ (b : ℕ). masked_of (w.state.next_position + b)) e ∙ masked-batch w.state.next_position (omega arith), omega arith)

    -- it may be added to the picture
    pub addable : Addable (bounds_of w) (picture_of w) (new_slot w) (new_lsn bit w) os
    addable =
        let z = free-slot f.free in
        let n = views-length (slots_of w) w.settings.slot_bytes w.heap in
        let p = f.positions in
        record {
          slot = let a = z.0 in omega arith;
          free = z.1;
          rising = f.rising;
          base = base.0;
          low = base.1;
          within = omega arith;
          ids = f.ids;
          room = f.room;
          narrow = λ x l h. let a = absolute-has (new_lsn bit w) (entries_of 0 os) x l h in ids-fit os f.ids 0 x a.0 a.1;
        }

    -- label and file may be written
    pub writable : Writable w.settings.slot_bytes (new_lsn bit w) g os
    unfolding new_record new_label
    writable =
        let b = base in
        let m = b.0 in
        let l = b.1 in
        let p = f.positions in
        let q = f.slot in
        let n = file-length os in
        let r = s.sound.started in
        let t = s.tidy.limits.settings.slot-high in
        record {
          some = f.some;
          ids = f.ids;
          slot = omega arith;
          bounds = record { size = omega arith; offset = omega arith; masked = omega arith; lsn = l; end = omega arith; generation = f.aged };
        }

    used-after : Used (insert_all (mappings w) (rows_for (new_lsn bit w) 0 os))
    used-after =
        subst Used (sym (newest-added (bounds_of w) (picture_of w) told s.sound (new_slot w) (new_lsn bit w) g os addable))
        (rows-used (added (new_lsn bit w) g (picture_of w) (new_slot w) os).views
        (filed-added (bounds_of w) (picture_of w) told s.sound (new_slot w) (new_lsn bit w) g os addable).made)

    -- the new slot's view alone changes
    pub views_after : views_of (installed bit g w os) ≡ set (views_of w) (new_slot w) (holds (file_of_ops (new_lsn bit w) g os))
    unfolding installed stores_for
    views_after =
        let h = heap-whole w.settings (length w.heap) s.tidy.limits.heap in
        ap (λ (n : ℕ). views_in (slots_in w.settings n) w.settings.slot_bytes (installed bit g w os).heap) (made-length (stores_for (new_label (new_lsn bit w) g os) w os) w.heap)
        ∙ views-made (slots_of w) w.settings.slot_bytes w.heap (new_slot w) (new_lsn bit w) g os (free-slot f.free).0 (omega arith) writable

    -- LAW: the picture after is the picture with the file added
    pub picture-installed : picture_of (installed bit g w os) ≡ added (new_lsn bit w) g (picture_of w) (new_slot w) os
    unfolding installed added records_with table_with next_with
    picture-installed = λ i. record {
      views = views_after i;
      records = records_with (new_record (new_lsn bit w) g os) w os;
      table = used-laid-out (capacity_of w.table) (insert_all (mappings w) (rows_for (new_lsn bit w) 0 os)) used-after i;
      next = next_with w os;
    }

    capacity-after : capacity_of (installed bit g w os).table ≡ capacity_of w.table
    unfolding installed table_with
    capacity-after = laid-out-capacity (capacity_of w.table) (insert_all (mappings w) (rows_for (new_lsn bit w) 0 os)) f.room

    tidy-installed : Tidy (installed bit g w os)
    unfolding installed table_with
    tidy-installed =
        let t = insert_all (mappings w) (rows_for (new_lsn bit w) 0 os) in
        let n = made-length (stores_for (new_label (new_lsn bit w) g os) w os) w.heap in
        let a = laid-out-capacity (capacity_of w.table) t f.room in
        let b = laid-out-even (capacity_of w.table) t f.room in
        let r = s.tidy.limits.table in
        let lo = r.some in
        let hi = r.most in
        record {
          limits = record {
            settings = s.tidy.limits.settings;
            heap = subst (HeapInRange w.settings) (sym n) s.tidy.limits.heap;
            table = record { even = b; some = omega arith; most = omega arith };
          };
          settings = s.tidy.settings;
          heap_len = n ∙ s.tidy.heap_len;
          table-len = a ∙ s.tidy.table-len;
          form = form-laid-out (capacity_of w.table) t used-after (rising-insert-all (mappings w) (rows_for (new_lsn bit w) 0 os) (table-rising (bounds_of w) (picture_of w) told s.sound));
        }

    -- LAW: the invariant after a file is added
    pub sound-installed : SoundWorld (installed bit g w os) (λ x. over (file_says (file_of_ops (new_lsn bit w) g os) x) (told x))
    sound-installed = record {
      tidy = tidy-installed;
      sound =
          subst (λ (b : ℕ). Sound b (picture_of (installed bit g w os)) (λ x. over (file_says (file_of_ops (new_lsn bit w) g os) x) (told x))) (sym capacity-after)
          (subst (λ (p : Picture). Sound (bounds_of w) p (λ x. over (file_says (file_of_ops (new_lsn bit w) g os) x) (told x))) (sym picture-installed)
          (sound-added (bounds_of w) (picture_of w) told s.sound (new_slot w) (new_lsn bit w) g os addable));
    }
