-- A file of a group added to a store: refusal 1 does not hold again, the table keeps its ids, and the other empty slots stay empty.
use Rattle.std.specs.Prelude.{◌≡◌, refl, ◌⊎◌, ◌≤◌, ◌<◌, ◌∷◌, ◌+◌, ◌/◌, ◌^◌}
use Rattle.std.proofs.Common.{sym, ◌∙◌, inl, inr, zero-le, arith, get_or-set_same, get_or-set_other}
use Rattle.std.proofs.Math.Path.{ap}
use Rattle.rules.specs.Base.{false, List, ℕ, length, set}
use Rattle.rules.proofs.BaseLaws.{same?}
use Rattle.rules.specs.declared.Record.{Record}
use Rattle.rules.specs.Ops.{Op, objects_of, file_bytes}
use Rattle.rules.proofs.OpsLaws.{file-length}
use Rattle.rules.specs.Settings.{slots_in}
use Rattle.rules.specs.Layout.{table_ids, capacity_of}
use Rattle.rules.specs.FileMap.{empty_record, is_empty, record_at, empty_slots}
use Rattle.rules.specs.FileMapLaws.{Lowest}
use Rattle.rules.proofs.FileMapLaws.{not-empty, lowest-empty}
use Rattle.rules.specs.Condition1Laws.{GoodRecord, Passed}
use Rattle.rules.proofs.StoreLaws.{made-length}
use Rattle.rules.specs.Install.{new_label, new_record, new_lsn, new_slot, losing, records_with, stores_for, table_with, next_with, installed, empty_of}
use Rattle.rules.proofs.InstallLaws.{losing-length, plain-lsn, losing-record, installed-lsn}
use Rattle.rules.specs.World.{World, records_of, slots_of, mappings, state_with}
use Rattle.rules.proofs.LabelLaws.{lsn-some}
use Rattle.limits.specs.Settled.{passed-formed}
use Rattle.gc_install.specs.IdLaws.{ids_in, There, SameIds, ids-stay}
use Rattle.gc_install.specs.RecordLaws.{still, still-good, empty-rest}

-- 4, 5 and 7 do not refuse a file of these operations, which are on ids of the table
pub record Rewritable (generation : ℕ) (w : World) (ops : List Op) : Type 0 where
  pub passed : Passed w.settings (length w.heap) w.table w.state
  pub young : generation ≤ 255
  pub fits : 64 + length (file_bytes ops) ≤ w.settings.slot_bytes
  pub free : 0 < empty_of w
  pub last : w.state.next_position + (length (objects_of ops) + 1) ≤ 2 ^ 62
  pub there : There (ids_in (mappings w)) ops
  pub few : length ops ≤ capacity_of w.table

-- what is known after it was added
pub record Rewritten (w : World) (ops : List Op) (after : World) : Type 0 where
  pub passed : Passed after.settings (length after.heap) after.table after.state
  pub heap : length after.heap ≡ length w.heap
  pub ids : table_ids after.table ≡ table_ids w.table
  pub used : length (mappings after) ≡ length (mappings w)
  pub files : (k : ℕ) → is_empty (record_at (records_of w) k) ≡ false → is_empty (record_at (records_of after) k) ≡ false
  pub empty : empty_slots (slots_of w) (records_of w) ≡ new_slot w ∷ empty_slots (slots_of after) (records_of after)
  pub next : after.state.next_position ≡ w.state.next_position + (length (objects_of ops) + 1)

module _ (generation : ℕ) (w : World) (ops : List Op) (f : Rewritable generation w ops) where
  -- the slot that it takes
  pub slot-taken : Lowest (slots_of w) (records_of w) (new_slot w)
  slot-taken = lowest-empty (slots_of w) (records_of w) f.free

  -- the table keeps its ids
  pub same-ids : SameIds w.table (table_with (new_lsn 0 w) w ops)
  unfolding table_with
  same-ids =
      ids-stay w.table (passed-formed w.settings (length w.heap) w.table w.state f.passed) (new_lsn 0 w) ops f.there (omega (arith, f.passed.next))

  -- its record is a file's
  new-some : is_empty (new_record (new_lsn 0 w) generation ops) ≡ false
  unfolding new_record new_label
  new-some = not-empty (new_record (new_lsn 0 w) generation ops) (omega (arith, f.passed.next))

  -- that refusal 1 lets pass
  new-good : GoodRecord w.settings (length w.heap) (table_with (new_lsn 0 w) w ops) (new_slot w) (new_record (new_lsn 0 w) generation ops)
  unfolding new_record new_label
  new-good =
      let base = w.state.next_position in
      let lsn = plain-lsn base (omega (arith, f.last)) in
      let size = file-length ops in
      record {
        place = slot-taken.place;
        bounds = record {
          size = omega (arith, f.fits);
          offset = omega arith;
          masked = omega (arith, lsn.0, f.passed.next);
          lsn = lsn.1;
          end = omega (arith, lsn.0, f.last);
          generation = f.young;
        };
        present = omega arith;
        live = omega (arith, f.few, same-ids.words);
        mark = zero-le;
      }

  -- every other record is as empty as before
  others : (j : ℕ) → is_empty (record_at (losing (mappings w) ops (records_of w)) j) ≡ is_empty (record_at (records_of w) j)
  others j =
      still w.settings (length w.heap) w.table w.table refl j (record_at (records_of w) j) (record_at (losing (mappings w) ops (records_of w)) j)
      (losing-record (mappings w) ops (records_of w) j).same (losing-record (mappings w) ops (records_of w) j).less (f.passed.records j)

  -- and passes refusal 1, as the new one does
  records-good : (k : ℕ) → is_empty (record_at (records_with (new_record (new_lsn 0 w) generation ops) w ops) k) ≡ false
      → GoodRecord w.settings (length w.heap) (table_with (new_lsn 0 w) w ops) k (record_at (records_with (new_record (new_lsn 0 w) generation ops) w ops) k)
  unfolding records_with
  records-good k e = go (same? k (new_slot w))
    where
      new : Record
      new = new_record (new_lsn 0 w) generation ops

      old : List Record
      old = losing (mappings w) ops (records_of w)

      go : (k ≡ new_slot w) ⊎ (k ≡ new_slot w → ⊥)
          → GoodRecord w.settings (length w.heap) (table_with (new_lsn 0 w) w ops) k (record_at (set old (new_slot w) new) k)
      go (inl q) =
          let room : new_slot w < length old = omega (arith, slot-taken.room, losing-length (mappings w) ops (records_of w)) in
          rw (q, get_or-set_same old (new_slot w) new empty_record room) new-good
      go (inr d) =
          let same = get_or-set_other old (new_slot w) k new empty_record d in
          rw same (still-good w.settings (length w.heap) w.table (table_with (new_lsn 0 w) w ops) (ap (λ (n : ℕ). n / 2) same-ids.words) k (record_at (records_of w) k) (record_at old k)
          (losing-record (mappings w) ops (records_of w) k).same (losing-record (mappings w) ops (records_of w) k).less (f.passed.records k) (ap is_empty (sym same) ∙ e))

  -- refusal 1 does not hold
  passed-with : Passed w.settings (length w.heap) (table_with (new_lsn 0 w) w ops)
      (state_with w.state (records_with (new_record (new_lsn 0 w) generation ops) w ops) (next_with w ops))
  unfolding next_with
  passed-with =
      let p = f.passed in
      let kept = same-ids in
      let long = kept.words in
      record {
        limits = record {
          settings = p.limits.settings;
          heap = p.limits.heap;
          table = record { even = omega (arith, p.limits.table.even); some = omega (arith, p.limits.table.some); most = omega (arith, p.limits.table.most) };
        };
        settings = p.settings;
        heap_len = p.heap_len;
        table-len = ap (λ (n : ℕ). n / 2) long ∙ p.table-len;
        form = kept.form;
        next = omega (arith, p.next);
        records = records-good;
      }

  -- the heap is as long as before
  heap-after : length (installed 0 generation w ops).heap ≡ length w.heap
  unfolding installed
  heap-after = made-length (stores_for (new_label (new_lsn 0 w) generation ops) w ops) w.heap

  -- LAW: all of it
  pub passed-installed : Rewritten w ops (installed 0 generation w ops)
  unfolding installed records_with next_with
  passed-installed =
      let new = new_record (new_lsn 0 w) generation ops in
      let old = losing (mappings w) ops (records_of w) in
      record {
        passed = rw heap-after passed-with;
        heap = heap-after;
        ids = same-ids.ids;
        used = same-ids.used;
        files = λ k e. not-empty (record_at (records_of (installed 0 generation w ops)) k)
            (installed-lsn 0 generation w ops f.passed.next k (lsn-some w.settings.slot_bytes (record_at (records_of w) k).label (f.passed.records k e).bounds));
        empty =
            empty-rest (slots_of w) (records_of w) old new (losing-length (mappings w) ops (records_of w)) new-some others f.free
            ∙ ap (λ (n : ℕ). new_slot w ∷ empty_slots (slots_in w.settings n) (set old (new_slot w) new)) (sym heap-after);
        next = refl;
      }
