-- What an accepted write knows.
use Rattle.std.specs.Prelude.{◌≡◌, ◌≤◌, ◌<◌, ◌∷◌, ◌+◌, ◌^◌, Ok}
use Rattle.std.proofs.Common.{arith, not-suc-le-zero, ltb-false}
use Rattle.rules.specs.Base.{List, [], ℕ, length, sum}
use Rattle.rules.specs.Types.{TableRoom}
use Rattle.rules.specs.Refusal.{◌gives◌, decide, NoneHolds}
use Rattle.rules.proofs.RefusalLaws.{clear-when, none_first, none_rest}
use Rattle.rules.specs.Ops.{Op, objects_of, file_bytes}
use Rattle.rules.specs.Batch.{batch_in, ops_of}
use Rattle.rules.specs.Layout.{capacity_of}
use Rattle.rules.proofs.BatchLaws.{batch-ids}
use Rattle.rules.proofs.SettledLaws.{settled-all}
use Rattle.rules.proofs.Condition1Laws.{passed}
use Rattle.rules.specs.WrittenLaws.{Writable}
use Rattle.rules.specs.Install.{new_lsn, room_tests, empty_of, position_tests}
use Rattle.rules.specs.InstallLaws.{Room}
use Rattle.rules.proofs.InstallLaws.{room-clear, positions-clear, batch-lsn, new-writable}
use Rattle.rules.specs.Write.{new_files, too_many_ids, write_tests}
use Rattle.rules.specs.World.{World, mappings}
use Rattle.rules.specs.WriteLaws.{ops_in, Accepted}

-- the one file of a batch that is not empty
fits_one : (slot_size empty_ones : ℕ) (ops : List Op) → Room slot_size empty_ones (new_files ops) → 0 < length ops → (64 + length (file_bytes ops) ≤ slot_size) × (0 < empty_ones)
fits_one slot_size empty_ones [] r h = absurd (not-suc-le-zero h)
fits_one slot_size empty_ones (o ∷ os) r h = (r.fits.0, r.slots)

last_one : (base : ℕ) (ops : List Op) → NoneHolds (position_tests base (new_files ops)) → 0 < length ops → base + (length (objects_of ops) + 1) ≤ 2 ^ 62
unfolding sum
last_one base [] n h = absurd (not-suc-le-zero h)
last_one base (o ∷ os) n h = let w = positions-clear base ((o ∷ os) ∷ []) n (omega arith) in omega arith

-- a write that is not refused knows this
pub write-accepted : (w : World) (bytes : List ℕ) → decide (write_tests w bytes) ≡ Ok tt → Accepted w bytes
unfolding write_tests NoneHolds too_many_ids
write-accepted w bytes e =
    let n = clear-when (write_tests w bytes) e in
    let ops = ops_in bytes in
    let rooms = room_tests w.settings.slot_bytes (empty_of w) (new_files ops) in
    let rest = too_many_ids (capacity_of w.table) (mappings w) ops gives TableRoom ∷ position_tests w.state.next_position (new_files ops) in
    let r = room-clear w.settings.slot_bytes (empty_of w) (new_files ops) (none_first rooms rest n.1.1.1) in
    let m = none_rest rooms rest n.1.1.1 in
    record {
      passed = n.0;
      parsed = n.1.0;
      small = n.1.1.0;
      fits = λ h. (fits_one w.settings.slot_bytes (empty_of w) ops r h).0;
      slot = λ h. (fits_one w.settings.slot_bytes (empty_of w) ops r h).1;
      ids = ltb-false _ _ m.0;
      last = last_one w.state.next_position ops m.1;
    }

-- so its file can be written
pub write-writable : (w : World) (bytes : List ℕ) → Accepted w bytes → 0 < length (ops_in bytes) → Writable w.settings.slot_bytes (new_lsn (2 ^ 62) w) 0 (ops_in bytes)
write-writable w bytes a some =
    let p = passed w.settings (length w.heap) w.table w.state a.passed in
    let high = p.limits.settings.slot-high in
    let last = a.last some in
    let base = w.state.next_position in
    let lsn = batch-lsn base (omega arith) in
    new-writable w.settings.slot_bytes base (base + 2 ^ 62) 0 (ops_in bytes) some
    (settled-all (λ (o : Op). o.id < 2 ^ 64) (ops_of (batch_in bytes)) (batch-ids bytes))
    (omega arith) (a.fits some) p.next last lsn.0 lsn.1 (omega arith)
