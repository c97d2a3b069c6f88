-- A file that was written: its trailer stands in the heap and is read back, and what adding it by that trailer leaves is what document 01 says.
use Rattle.std.specs.Prelude.{◌≡◌, ◌≤◌, ◌<◌, ◌∷◌, ◌++◌, ◌+◌, ◌*◌, ◌^◌}
use Rattle.std.proofs.Math.Path.{refl, ap, ap₂}
use Rattle.std.proofs.Common.{sym, ◌∙◌, append_assoc, append-nil, arith}
use Rattle.std.proofs.Math.ListN.{length-append}
use Rattle.std.proofs.lemmas.List.{length-map}
use Rattle.numbers.specs.Parts.{put_at, put-field}
use Rattle.disk_location.specs.Locations.{position_of}
use Rattle.disk_location.proofs.LocationLaws.{position-raw}
use Rattle.rules.specs.Base.{List, [], ℕ, zero, suc, length, get_or, set}
use Rattle.rules.specs.declared.Settings.{Settings}
use Rattle.rules.specs.declared.Entry.{Entry}
use Rattle.rules.specs.declared.Label.{Label}
use Rattle.rules.specs.declared.Record.{Record}
use Rattle.rules.specs.declared.State.{State}
use Rattle.rules.specs.declared.Claims.{Claims}
use Rattle.rules.specs.Settings.{slots_in}
use Rattle.rules.specs.Ops.{Op, is_delete, size_of, objects_of, entries_of, file_bytes}
use Rattle.rules.specs.OpsLaws.{IdsFit}
use Rattle.rules.proofs.OpsLaws.{objects-length, entries-of-length, entries-of-fits, file-length}
use Rattle.rules.specs.Label.{label_bytes}
use Rattle.rules.proofs.LabelLaws.{label-length}
use Rattle.rules.specs.Trailer.{count_in, entries_in, trailer_bytes}
use Rattle.rules.proofs.TrailerLaws.{trailer-length, trailer-back, count-back}
use Rattle.rules.specs.Table.{insert_all}
use Rattle.rules.specs.Layout.{Table, used_entries, capacity_of}
use Rattle.rules.proofs.SettingsLaws.{slot-within}
use Rattle.rules.specs.FileMap.{lowest_empty}
use Rattle.rules.specs.Condition1Laws.{Passed}
use Rattle.rules.specs.Stores.{made, file_stores}
use Rattle.rules.proofs.StoreLaws.{made-length, file-made}
use Rattle.rules.specs.Install.{new_label, new_record, installed, records_with, stores_for, table_with, next_with, new_slot}
use Rattle.rules.specs.World.{world, state_with}
use Rattle.location_table.specs.Tables.{Formed}
use Rattle.file_map.specs.Records.{labelled, fresh, new-label, new-record}
use Rattle.file_lists.specs.Lists.{lsns_of, lives_of, with_lives}
use Rattle.install.specs.Losing.{losing_by, losing_lives, losing-entries, losing-lives}
use Rattle.install.specs.Adding.{taken, with_taken, Placed, trailer_at, Installable}

-- a file of these operations that none of 1 and 4 to 7 refuses: its batch bit or 0, its slot, its count of entries and T
pub record Addable (bit : ℕ) (ops : List Op) (s : Settings) (t : State) (heap : List ℕ) (b : Table) (slot count total : ℕ) : Type 0 where
  pub limits : Passed s (length heap) b t
  pub plain : bit ≤ 2 ^ 62
  pub ids : IdsFit ops
  pub entries : count ≡ length ops
  pub objects : total ≡ length (objects_of ops)
  pub fits : 64 + length (file_bytes ops) ≤ s.slot_bytes
  pub lowest : slot ≡ lowest_empty (slots_in s (length heap)) t.files.records
  pub free : slot < slots_in s (length heap)
  pub room : (lsn : ℕ) → length (insert_all (used_entries b) (taken lsn (entries_of 0 ops))) ≤ capacity_of b
  pub last : t.next_position + (total + 1) ≤ 2 ^ 62

-- an entry's position is within the object bytes
position-within : (q : ℕ) (ops : List Op) (k : ℕ) → position_of (get_or (entries_of q ops) k (record { id = 0; location = 0 })).location ≤ q + length (objects_of ops)
unfolding entries_of
position-within q [] k = omega arith
position-within q (o ∷ os) zero = omega (arith, position-raw q (is_delete o.content))
position-within q (o ∷ os) (suc k) = omega (arith, position-within (q + size_of o.content) os k, objects-length o os)

parts : (label objects trailer : List ℕ) → label ++ (objects ++ trailer) ≡ ((label ++ objects) ++ trailer) ++ []
parts label objects trailer = sym (append-nil ((label ++ objects) ++ trailer) ∙ append_assoc label objects trailer)

module _ {bit : ℕ} {ops : List Op} {s : Settings} {t : State} {heap : List ℕ} {b : Table} {slot count total : ℕ} (f : Addable bit ops s t heap b slot count total) where
  -- the file lies within the heap
  pub slot-inside : slot * s.slot_bytes + (64 + length (file_bytes ops)) ≤ length heap
  slot-inside = omega (arith, slot-within s (length heap) slot f.limits.limits.heap f.free, f.fits)

  -- its sizes
  pub sizes-small : (total + (12 + 16 * count) ≡ length (file_bytes ops)) × (length (file_bytes ops) ≤ 1048576)
  sizes-small =
      let size = file-length ops in
      (omega (arith, f.entries, f.objects), omega (arith, f.fits, f.limits.limits.settings.slot-high))

  -- its entries have absolute locations
  entries-placed : Placed (t.next_position + bit) (entries_of 0 ops)
  entries-placed k = omega (arith, position-within 0 ops k, f.objects, f.last, f.plain)

  -- its record has a slot, and a next position
  pub record-fits : {lsn size generation : ℕ} {new : Label} → new ≡ labelled lsn total size count generation
      → (slot < 256) × (t.next_position + (new.trailer_offset + 1) < 2 ^ 64)
  record-fits numbers =
      (omega (arith, f.free, f.limits.limits.heap.most), omega (arith, f.last, ap (λ (l : Label). l.trailer_offset) numbers))

  -- once its label, its objects and its trailer are written
  module _ {lsn generation : ℕ} {new : Label} {after : List ℕ} (base : lsn ≡ t.next_position + bit)
      (numbers : new ≡ labelled lsn total (total + (12 + 16 * count)) count generation)
      (written : after ≡ made (file_stores (slot * s.slot_bytes) (label_bytes new) (file_bytes ops)) heap) where
    -- the label is the new file's
    label-new : new ≡ new_label (t.next_position + bit) generation ops
    label-new = numbers ∙ rw (base, sizes-small.0, f.objects, f.entries) (sym (new-label (t.next_position + bit) generation ops))

    -- and so is its record
    record-new : fresh new ≡ new_record (t.next_position + bit) generation ops
    record-new = ap fresh label-new ∙ sym (new-record (t.next_position + bit) generation ops)

    -- its trailer stands behind its objects
    trailer-there : trailer_at after (slot * s.slot_bytes) count total ≡ trailer_bytes (entries_of 0 ops)
    unfolding file_bytes
    trailer-there =
        let start = slot * s.slot_bytes in
        let label = label_bytes new in
        let objects = objects_of ops in
        let trailer = trailer_bytes (entries_of 0 ops) in
        let size : 12 + 16 * count ≡ length trailer = omega (arith, trailer-length (entries_of 0 ops), entries-of-length 0 ops, f.entries) in
        let place : start + 64 + total ≡ start + length (label ++ objects) = omega (arith, length-append label objects, label-length new, f.objects) in
        let whole : after ≡ put_at heap start (((label ++ objects) ++ trailer) ++ []) =
        written ∙ file-made start label (file_bytes ops) heap (label-length new) slot-inside ∙ ap (put_at heap start) (parts label objects trailer) in
        rw (size, place, whole) (put-field heap start (label ++ objects) trailer [] (omega (arith, slot-inside)))

    -- and is read back
    entries-there : entries_in (trailer_at after (slot * s.slot_bytes) count total) ≡ entries_of 0 ops
    entries-there =
        ap entries_in trailer-there
        ∙ trailer-back (entries_of 0 ops) (omega (arith, entries-of-length 0 ops, f.entries, sizes-small.0, sizes-small.1))
        (entries-of-fits 0 ops f.ids (omega (arith, f.objects, f.last)))

    -- so is its count
    count-there : count_in (trailer_at after (slot * s.slot_bytes) count total) ≡ count
    count-there =
        ap count_in trailer-there
        ∙ count-back (entries_of 0 ops) (omega (arith, entries-of-length 0 ops, f.entries, sizes-small.0, sizes-small.1))
        ∙ entries-of-length 0 ops ∙ sym f.entries

    module _ {lsns lives : List ℕ} (x : lsns ≡ lsns_of t.files.records) (y : lives ≡ lives_of t.files.records) where
      -- LAW: it can be added
      pub installable : Formed b → length lsns ≤ 256 → Installable lsns lives b after (slot * s.slot_bytes) count total new.lsn
      installable formed few =
          let rs = t.files.records in
          let there = ap (λ (l : Label). l.lsn) numbers ∙ base in
          record {
            formed = formed;
            even = omega (arith, ap length x, ap length y, length-map rs (λ (r : Record). r.label.lsn), length-map rs (λ (r : Record). r.live));
            few = few;
            inside = omega (arith, slot-inside, sizes-small.0, ap length written, made-length (file_stores (slot * s.slot_bytes) (label_bytes new) (file_bytes ops)) heap);
            counted = count-there;
            placed = rw (there, entries-there) entries-placed;
            some = omega (arith, there, f.limits.next);
            room = rw entries-there (f.room new.lsn);
          }

      -- LAW: what adding it leaves
      pub added : {r : State} {b' : Table} {left : List ℕ}
          → (left ≡ losing_lives lsns (used_entries b) (entries_in (trailer_at after (slot * s.slot_bytes) count total)) lives)
          × (b' ≡ with_taken b new.lsn (entries_in (trailer_at after (slot * s.slot_bytes) count total)))
          → r ≡ state_with t (set (with_lives t.files.records left) slot (fresh new)) (t.next_position + (new.trailer_offset + 1))
          → (c : Claims) → world s r c after b' ≡ installed bit generation (world s t c heap b) ops
      unfolding installed records_with stores_for table_with next_with new_label new_record
      added {r} {b'} {left} z q c =
          let es = entries_of 0 ops in
          let there = entries-there in
          let e = label-new in
          let lost : with_lives t.files.records left ≡ losing_by (used_entries b) es t.files.records =
          ap (with_lives t.files.records) (z.0 ∙ rw (x, y, there) refl) ∙ losing-lives (used_entries b) es t.files.records in
          let w = world s t c heap b in
          let n = new_record (t.next_position + bit) generation ops in
          let state : r ≡ state_with t (records_with n w ops) (next_with w ops) =
          q
          ∙ ap (λ (rs : List Record). state_with t (set rs slot (fresh new)) (t.next_position + (new.trailer_offset + 1))) lost
          ∙ ap₂ (λ (k : ℕ) (m : Record). state_with t (set (losing_by (used_entries b) es t.files.records) k m) (t.next_position + (m.label.trailer_offset + 1))) f.lowest record-new
          ∙ ap (λ (rs : List Record). state_with t (set rs (new_slot w) n) (next_with w ops)) (sym (losing-entries (used_entries b) 0 ops t.files.records)) in
          let stores : after ≡ made (stores_for (new_label (t.next_position + bit) generation ops) w ops) heap =
          written ∙ ap₂ (λ (k : ℕ) (m : Label). made (file_stores (k * s.slot_bytes) (label_bytes m) (file_bytes ops)) heap) f.lowest e in
          let entries : b' ≡ table_with (t.next_position + bit) w ops =
          z.1 ∙ ap₂ (λ (m : Label) (xs : List Entry). with_taken b m.lsn xs) e there in
          same-world state stores entries
        where
          same-world : {r q : State} {h k : List ℕ} {x y : Table} → r ≡ q → h ≡ k → x ≡ y
              → world s r c h x ≡ world s q c k y
          same-world e f g = rw (e, f, g) refl
