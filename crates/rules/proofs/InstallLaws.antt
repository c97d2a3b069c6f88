-- Adding files: what 4, 5 and 7 leave known, and what stays as it was.
use Rattle.std.specs.Prelude.{◌≡◌, refl, ◌⊎◌, ◌≤◌, ◌<◌, ◌∷◌, ◌+◌, ◌-◌, ◌*◌, ◌^◌, None, Some}
use Rattle.std.proofs.Common.{ap, ◌∙◌, sym, inl, inr, arith, ltb-false, lt-ltb, eq-eqb, ne_eqb, get_or-set_same, get_or-set_other}
use Rattle.std.proofs.Math.Nat.{sub-zero}
use Rattle.std.proofs.Math.ListN.{get_or-eq_default}
use Rattle.std.proofs.Math.Seq.{set_out}
use Rattle.rules.specs.Base.{List, [], ℕ, length, set, ltb, sum, Bool, true, false, eqb, pick}
use Rattle.rules.specs.Types.{Entry, Label, Record, Slot, At, DeletedAt}
use Rattle.rules.proofs.BaseLaws.{all_map, any_false, same?}
use Rattle.numbers.specs.GroupLaws.{either_way}
use Rattle.disk_location.specs.Locations.{masked_of, bit_of, delete_of}
use Rattle.disk_location.proofs.LocationLaws.{masked_plain, masked-batch}
use Rattle.rules.specs.Refusal.{NoneHolds}
use Rattle.rules.specs.Table.{load, loaded_of}
use Rattle.rules.specs.FileMap.{empty_record, record_at, with_live, less_live, file_for}
use Rattle.rules.proofs.FileMapLaws.{less-live-length, file-same}
use Rattle.rules.specs.Ops.{Op, objects_of, file_bytes}
use Rattle.rules.specs.OpsLaws.{IdsFit}
use Rattle.rules.proofs.OpsLaws.{file-length}
use Rattle.rules.specs.SlotFile.{holds, views_in}
use Rattle.rules.specs.WrittenLaws.{Writable, file_of_ops}
use Rattle.rules.proofs.WrittenLaws.{views-made}
use Rattle.rules.specs.World.{World, records_of, slots_of, mappings}
use Rattle.rules.specs.Install.{new_label, new_record, file_holding, losing, new_slot, new_lsn, records_with, stores_for, installed, room_tests, position_tests}
use Rattle.rules.specs.InstallLaws.{Room, is_at, Less}

-- 4 and 5 do not hold
pub room-clear : (slot_size empty_ones : ℕ) (files : List (List Op)) → NoneHolds (room_tests slot_size empty_ones files) → Room slot_size empty_ones files
unfolding room_tests NoneHolds
room-clear slot_size empty_ones files n = record {
  fits = all_map _ _ files (λ f e. ltb-false slot_size (64 + length (file_bytes f)) e) (any_false (λ (f : List Op). ltb slot_size (64 + length (file_bytes f))) files n.0);
  slots = ltb-false empty_ones (length files) n.1.0;
}

-- positions last for all of them
pub positions-clear : (base : ℕ) (files : List (List Op)) → NoneHolds (position_tests base files) → 0 < length files
    → base + sum (λ (f : List Op). length (objects_of f) + 1) files ≤ 2 ^ 62
unfolding position_tests NoneHolds
positions-clear base files n some =
    ltb-false (2 ^ 62) (base + sum (λ (f : List Op). length (objects_of f) + 1) files) (rw (lt-ltb 0 (length files) some) at n.0)

-- ---- so the file can be written
pub new-writable : (slot_size base lsn generation : ℕ) (ops : List Op) → 0 < length ops → IdsFit ops → slot_size < 2 ^ 64 → 64 + length (file_bytes ops) ≤ slot_size
    → 0 < base → base + (length (objects_of ops) + 1) ≤ 2 ^ 62 → masked_of lsn ≡ base → lsn < 2 ^ 63 → generation ≤ 255 → Writable slot_size lsn generation ops
unfolding new_label
new-writable slot_size base lsn generation ops some ids large fits start last masked low young = record {
  some = some;
  ids = ids;
  slot = large;
  bounds = record {
    size = omega arith;
    offset = omega (arith, file-length ops);
    masked = omega (arith, masked);
    lsn = low;
    end = omega (arith, masked);
    generation = young;
  };
}

-- "lsn = base with the batch bit", and without
pub batch-lsn : (base : ℕ) → base < 2 ^ 62 → (masked_of (base + 2 ^ 62) ≡ base) × (base + 2 ^ 62 < 2 ^ 63)
batch-lsn base h = (masked-batch base h, omega arith)

-- of a rewritten file
pub plain-lsn : (base : ℕ) → base < 2 ^ 62 → (masked_of (base + 0) ≡ base) × (base + 0 < 2 ^ 63)
plain-lsn base h = let same : base + 0 ≡ base = omega arith in (ap masked_of same ∙ masked_plain base h, omega arith)

-- ---- the file of a location that is held
-- an object's and a delete's alike
pub holding-mapped : (rs : List Record) (l : ℕ) → file_holding rs (loaded_of (Some l)) ≡ file_for rs l
holding-mapped rs l = go (delete_of l)
  where
    go : (d : Bool) → file_holding rs (pick d (DeletedAt l) (At l)) ≡ file_for rs l
    go true = refl
    go false = refl

-- ---- live counts alone change
pub losing-length : (table : List Entry) (ops : List Op) (rs : List Record) → length (losing table ops rs) ≡ length rs
unfolding losing
losing-length table [] rs = refl
losing-length table (o ∷ os) rs =
    losing-length table os (less_live (file_holding rs (load table o.id)) rs) ∙ less-live-length (file_holding rs (load table o.id)) rs

-- only the file that was found loses, and one
pub less-at : (o : Slot) (rs : List Record) (j : ℕ) → record_at (less_live o rs) j ≡ with_live (record_at rs j) ((record_at rs j).live - bit_of (is_at j o))
less-at None rs j = ap (with_live (record_at rs j)) (sym (sub-zero (record_at rs j).live))
less-at (Some k) rs j = go (same? k j)
  where
    less : Record
    less = with_live (record_at rs k) ((record_at rs k).live - 1)

    -- past the records nothing is stored, and none of 0 is lost
    here : (k < length rs) ⊎ (length rs ≤ k) → record_at (set rs k less) k ≡ less
    here (inl h) = get_or-set_same rs k less empty_record h
    here (inr h) =
        let none : record_at rs k ≡ empty_record = get_or-eq_default rs empty_record {n = k} h in
        ap (λ (qs : List Record). record_at qs k) (set_out rs k less h) ∙ none ∙ sym (ap (λ (r : Record). with_live r (r.live - 1)) none)

    go : (k ≡ j) ⊎ (k ≡ j → ⊥) → record_at (set rs k less) j ≡ with_live (record_at rs j) ((record_at rs j).live - bit_of (eqb k j))
    go (inl e) = rw (← e, eq-eqb k k refl) (here (either_way k (length rs)))
    go (inr n) = rw (ne_eqb k j n, sub-zero (record_at rs j).live) (get_or-set_other rs k j less empty_record (λ z. n (sym z)))

-- only live counts fall
pub losing-record : (table : List Entry) (ops : List Op) (rs : List Record) (j : ℕ) → Less (record_at rs j) (record_at (losing table ops rs) j)
unfolding losing
losing-record table [] rs j = record { same = refl; less = omega arith }
losing-record table (o ∷ os) rs j =
    let slot = file_holding rs (load table o.id) in
    step (record_at rs j) (record_at (less_live slot rs) j) (record_at (losing table os (less_live slot rs)) j) (bit_of (is_at j slot)) (less-at slot rs j)
    (losing-record table os (less_live slot rs) j)
  where
    step : (r p q : Record) (n : ℕ) → p ≡ with_live r (r.live - n) → Less p q → Less r q
    step r p q n u w =
        let v : p.live ≡ r.live - n = ap (λ (s : Record). s.live) u in
        let z = w.less in
        record { same = w.same ∙ ap (λ (s : Record). with_live s q.live) u; less = omega arith }

-- the labels stay
pub losing-label : (table : List Entry) (ops : List Op) (rs : List Record) (j : ℕ) → (record_at (losing table ops rs) j).label ≡ (record_at rs j).label
losing-label table ops rs j = ap (λ (r : Record). r.label) (losing-record table ops rs j).same

-- so that every location's file is as before
pub losing-file : (table : List Entry) (ops : List Op) (rs : List Record) (location : ℕ) → file_for (losing table ops rs) location ≡ file_for rs location
losing-file table ops rs location =
    file-same (losing table ops rs) rs (losing-length table ops rs) (λ j. ap (λ (l : Label). l.lsn) (losing-label table ops rs j)) location

-- a slot with a file keeps one
pub installed-lsn : (bit generation : ℕ) (w : World) (ops : List Op) → 0 < w.state.next_position → (k : ℕ) → 0 < (record_at (records_of w) k).label.lsn
    → 0 < (record_at (records_of (installed bit generation w ops)) k).label.lsn
unfolding installed records_with new_record new_label
installed-lsn bit generation w ops next k some = go (same? k (new_slot w)) (either_way (new_slot w) (length rs))
  where
    rs : List Record
    rs = losing (mappings w) ops (records_of w)

    new : Record
    new = new_record (new_lsn bit w) generation ops

    same : (record_at rs k).label.lsn ≡ (record_at (records_of w) k).label.lsn
    same = ap (λ (l : Label). l.lsn) (losing-label (mappings w) ops (records_of w) k)

    go : (k ≡ new_slot w) ⊎ (k ≡ new_slot w → ⊥) → (new_slot w < length rs) ⊎ (length rs ≤ new_slot w) → 0 < (record_at (set rs (new_slot w) new) k).label.lsn
    go (inr d) h = rw (get_or-set_other rs (new_slot w) k new empty_record d) (omega (arith, same))
    go (inl e) (inl h) = rw (e, get_or-set_same rs (new_slot w) new empty_record h) (omega arith)
    go (inl e) (inr h) = rw (set_out rs (new_slot w) new h) (omega (arith, same))

-- ---- the heap: the new slot's view alone changes, to the file of these operations
pub installed-views : (bit generation : ℕ) (w : World) (ops : List Op) → Writable w.settings.slot_bytes (new_lsn bit w) generation ops
    → new_slot w < slots_of w → slots_of w * w.settings.slot_bytes ≤ length w.heap
    → views_in (slots_of w) w.settings.slot_bytes (installed bit generation w ops).heap
    ≡ set (views_in (slots_of w) w.settings.slot_bytes w.heap) (new_slot w) (holds (file_of_ops (new_lsn bit w) generation ops))
unfolding installed stores_for
installed-views bit generation w ops able low whole =
    views-made (slots_of w) w.settings.slot_bytes w.heap (new_slot w) (new_lsn bit w) generation ops low whole able
