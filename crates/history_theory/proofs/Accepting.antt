-- N: no store refuses every write: within the limits a write is accepted.
use Rattle.std.proofs.Common.{subst, ap, ◌∙◌, zero-le, arith, le-ltb}
use Rattle.std.specs.Prelude.{◌≡◌, refl, ◌<◌, ◌≤◌, ◌∷◌, ◌+◌, ◌^◌}
use Rattle.rules.specs.Base.{false, List, [], ℕ, zero, suc, length, any, sum}
use Rattle.rules.proofs.BaseLaws.{or-clear}
use Rattle.rules.specs.Refusal.{NoneHolds}
use Rattle.rules.proofs.RefusalLaws.{decide-clear, none-append}
use Rattle.rules.specs.Condition1.{out_of_range}
use Rattle.rules.proofs.Condition1Laws.{in-limits}
use Rattle.rules.specs.Ops.{Op, objects_of, entries_of, file_bytes}
use Rattle.rules.proofs.OpsLaws.{file-length, entries-of-length}
use Rattle.rules.specs.Batch.{batch_in, is_malformed, ops_of, any_too_large}
use Rattle.rules.specs.Table.{insert_all}
use Rattle.rules.proofs.TableLaws.{insert-all-length}
use Rattle.rules.specs.Layout.{capacity_of, laid_out, used_entries}
use Rattle.rules.proofs.LayoutLaws.{laid-out-capacity, used-laid-out}
use Rattle.rules.specs.FileMap.{no_files, slots_where, empty_slots}
use Rattle.rules.proofs.FileMapLaws.{is-empty}
use Rattle.rules.specs.Install.{room_tests, empty_of, position_tests}
use Rattle.rules.specs.Write.{new_files, too_many_ids, write_tests, write_call}
use Rattle.rules.specs.WriteLaws.{ops_in}
use Rattle.rules.specs.Reopen.{reopen_call}
use Rattle.rules.specs.World.{World, mappings, slots_of, Given, accepted, After}
use Rattle.theory.specs.Picture.{Said}
use Rattle.theory.specs.SoundWorld.{SoundWorld}
use Rattle.theory.proofs.SoundWorld.{sound-fine}
use Rattle.history_theory.specs.Writing.{engine, heard}
use Rattle.rules.specs.SettledLaws.{last_on}
use Rattle.rules.specs.Read.{read_of}
use Rattle.history_theory.specs.Reading.{Reads}
use Rattle.history_theory.specs.History.{write, lived}
use Rattle.history_theory.proofs.History.{any-history}
use Rattle.history_theory.specs.Fresh.{Blank, fresh}
use Rattle.history_theory.proofs.Fresh.{fresh-opens, sound-fresh}
use Rattle.history_theory.specs.Accepting.{Within}

room-clears : (size empty_ones : ℕ) (os : List Op) → 64 + length (file_bytes os) ≤ size → 0 < empty_ones → NoneHolds (room_tests size empty_ones (new_files os))
unfolding room_tests NoneHolds any
room-clears size empty_ones [] h e = (refl, (le-ltb empty_ones 0 zero-le, tt))
room-clears size empty_ones (o ∷ os) h e =
    (or-clear _ _ (le-ltb size (64 + length (file_bytes (o ∷ os))) h) refl, (le-ltb empty_ones 1 e, tt))

positions-clears : (base : ℕ) (os : List Op) → base + (length (objects_of os) + 1) ≤ 2 ^ 62 → NoneHolds (position_tests base (new_files os))
unfolding position_tests NoneHolds sum
positions-clears base [] h = (refl, tt)
positions-clears base (o ∷ os) h =
    let n : base + (length (objects_of (o ∷ os)) + 1 + 0) ≤ 2 ^ 62 = omega arith in
    (le-ltb (2 ^ 62) (base + (length (objects_of (o ∷ os)) + 1 + 0)) n, tt)

write-clears : (w : World) (told : ℕ → Said) → SoundWorld w told → (bytes : List ℕ) → Within w bytes → NoneHolds (write_tests w bytes)
unfolding write_tests NoneHolds too_many_ids
write-clears w told s bytes h =
    let n = (insert-all-length (mappings w) (entries_of 0 (ops_in bytes))).1 in
    let m = entries-of-length 0 (ops_in bytes) in
    let i = h.ids in (
      sound-fine w told s,
      (
        h.parsed,
        (
          h.small,
          none-append (room_tests w.settings.slot_bytes (empty_of w) (new_files (ops_in bytes))) _ (room-clears w.settings.slot_bytes (empty_of w) (ops_in bytes) h.slot h.free)
              (le-ltb (capacity_of w.table) (length (insert_all (mappings w) (entries_of 0 (ops_in bytes)))) (omega arith), positions-clears w.state.next_position (ops_in bytes) h.positions),
        ),
      ),
    )

-- LAW: such a batch is accepted
pub write-within : (w : World) (told : ℕ → Said) → SoundWorld w told → (bytes : List ℕ) → Within w bytes → (write_call w bytes).answer ≡ accepted []
unfolding write_call
write-within w told s bytes h = rw (decide-clear (write_tests w bytes) (write-clears w told s bytes h)) refl

some-empty : (n : ℕ) → 1 ≤ n → 0 < length (empty_slots n no_files)
unfolding empty_slots no_files slots_where
some-empty zero h = absurd (omega arith)
some-empty (suc n) h = rw is-empty (omega arith)

-- LAW: on a blank heap, just reopened, a batch that fits a slot and the table is accepted
pub fresh-write : (w : World) → out_of_range w.settings (length w.heap) w.table ≡ false → Blank w → (bytes : List ℕ)
    → is_malformed (batch_in bytes) ≡ false → any_too_large w.settings.max_object_size (ops_of (batch_in bytes)) ≡ false
    → 64 + length (file_bytes (ops_in bytes)) ≤ w.settings.slot_bytes → length (ops_in bytes) ≤ capacity_of w.table
    → (write_call (reopen_call w).world bytes).answer ≡ accepted []
fresh-write w range blank bytes parsed small slot ids =
    let l = in-limits w.settings (length w.heap) w.table range in
    let high = l.settings.slot-high in
    let n = file-length (ops_in bytes) in
    let c = laid-out-capacity (capacity_of w.table) [] zero-le in
    let u : used_entries (laid_out (capacity_of w.table) []) ≡ [] = used-laid-out (capacity_of w.table) [] (λ x l h. absurd h) in
    let e : length (used_entries (laid_out (capacity_of w.table) [])) ≡ 0 = ap length u in
    ap (λ (a : After). (write_call a.world bytes).answer) (fresh-opens w range blank)
    ∙ write-within (fresh w) (engine []) (sound-fresh w range blank) bytes (record {
      parsed = parsed;
      small = small;
      slot = slot;
      free = some-empty (slots_of w) l.heap.some;
      ids = omega arith;
      positions = omega arith;
    })

-- LAW: and then each id reads as the batch's last operation on it says
pub fresh-read : (w : World) → out_of_range w.settings (length w.heap) w.table ≡ false → Blank w → (bytes : List ℕ)
    → is_malformed (batch_in bytes) ≡ false → any_too_large w.settings.max_object_size (ops_of (batch_in bytes)) ≡ false
    → 64 + length (file_bytes (ops_in bytes)) ≤ w.settings.slot_bytes → length (ops_in bytes) ≤ capacity_of w.table
    → (id : ℕ) → Reads (write_call (reopen_call w).world bytes).world (read_of (write_call (reopen_call w).world bytes).world id) (last_on (ops_of (batch_in bytes)) id)
unfolding lived
fresh-read w range blank bytes parsed small slot ids id =
    subst (λ (g : Given). Reads (write_call (reopen_call w).world bytes).world (read_of (write_call (reopen_call w).world bytes).world id) (last_on (heard [] bytes g) id))
    (fresh-write w range blank bytes parsed small slot ids)
    ((any-history w range blank (write bytes ∷ [])).reads id)
