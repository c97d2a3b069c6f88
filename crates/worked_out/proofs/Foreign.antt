-- A clean heap that no writer of ours made, worked out: ids fall and one repeats, a delete's position is inside an object, bytes follow the
-- entries, the generation is 255, a body is of max_object_size, and the next position comes over 2^62.
use Rattle.std.specs.Prelude.{◌≡◌, refl, ◌∷◌, Err}
use Rattle.std.proofs.Common.{sym, ap, ◌∙◌, subst, true≢false, inl, inr, arith, leb-false}
use Rattle.rules.specs.Base.{false, List, [], ℕ, zero, suc, leb, any, zeros, keep, each, sum, greatest, padded}
use Rattle.theory.specs.Types.{ObjectSize, PositionsSpent, stopped_with}
use Rattle.numbers.specs.LittleEndian.{Bytes, le_bytes, le_value}
use Rattle.disk_location.specs.Locations.{masked_of, position_of, delete_of, digits_in}
use Rattle.rules.proofs.BaseLaws.{or-false}
use Rattle.rules.specs.Refusal.{NoneHolds, decide}
use Rattle.rules.specs.Object.{object_bytes, stored_at, objects_from, objects_in, bad_checksum}
use Rattle.rules.specs.Trailer.{listed, trailer_bytes, trailer_tests, entries_from, entries_in, misplaced}
use Rattle.rules.specs.TableLaws.{Has}
use Rattle.rules.specs.SlotFile.{File, View, empty, holds, slot_tests, view_in, views_in, bytes_of_slot}
use Rattle.rules.specs.Read.{object_tests, read_of}
use Rattle.rules.specs.World.{accepted, refused, maintain_given}
use Rattle.theory.specs.Places.{view_at}
use Rattle.theory.proofs.Places.{holds-inj, not-empty}
use Rattle.theory.specs.Picture.{views_of}
use Rattle.theory.specs.Sound.{StartsAt, WholeFile}
use Rattle.history_theory.specs.Clean.{Clean}
use Rattle.history_theory.specs.Writes.{never, deleted, bytes, got}
use Rattle.checksum.specs.Checksum.{shift_bit, shifts, crc_from, crc32, object_sum}
use Rattle.numbers.specs.Groups.{groups_of, read_groups, number_in}
use Rattle.rules.specs.Batch.{operation_at, batch_from, batch_in, any_too_large}
use Rattle.rules.specs.Claims.{is_claimed}
use Rattle.rules.specs.Condition1.{out_of_range, not_the_states, bad_record, bad_from, condition_one}
use Rattle.rules.specs.FileMap.{is_empty, no_files, slots_where, empty_slots, leads, lead_from, file_for, file_count}
use Rattle.rules.specs.Install.{room_tests, position_tests}
use Rattle.rules.specs.Label.{label_bytes, five_in, label_in, out_of_bounds}
use Rattle.rules.specs.Layout.{table_ids, table_locations, alternating, lengths_in_range, form_from, in_form, used_in, used_entries, laid_out}
use Rattle.rules.specs.Maintenance.{worth_it, cut_off, joining, split_from, files_of, is_candidate, group, moved_tests, delete_tests, deletes_of, file_tests, objects_found, deletes_found, found, group_tests, rewrite_group}
use Rattle.rules.specs.TwoCalls.{mark_of, count_of, rewrite_tests, generation_rewritten, rewrite_of, rewrite_call, job_from, job_of, nightly_call}
use Rattle.rules.specs.Ops.{objects_of, entries_of, file_bytes, joined, settled}
use Rattle.rules.specs.Reopen.{files_in, overlapping, not_rising, latest, latest_from, table_of, reopen_tests, mapped_into, records_from, next_after, opened, reopen_call, given_up}
use Rattle.rules.specs.Settings.{in_ranges, heap_in_range, same_settings}
use Rattle.rules.specs.Table.{lookup, insert, insert_all}
use Rattle.rules.specs.Write.{too_many_ids, write_tests, write_call}
use Rattle.worked_out.specs.Foreign.{objects, entries, foreign, file}

-- each test of bytes
all-bytes : (bs : List ℕ) → any (leb 256) bs ≡ false → Bytes bs
unfolding any
all-bytes [] h i = omega arith
all-bytes (b ∷ bs) h zero = leb-false 256 b (or-false (leb 256 b) (any (leb 256) bs) h).0
all-bytes (b ∷ bs) h (suc i) = all-bytes bs (or-false (leb 256 b) (any (leb 256) bs) h).1 i

views : views_of foreign ≡ holds file ∷ empty ∷ []
unfolding any zeros each padded label_bytes five_in label_in out_of_bounds object_bytes decide slot_tests view_in views_in listed trailer_tests entries_from entries_in misplaced le_bytes le_value groups_of read_groups number_in shift_bit shifts crc_from crc32 object_sum masked_of digits_in bytes_of_slot
views = refl

file-whole : WholeFile file
unfolding any each object_bytes stored_at objects_from objects_in bad_checksum object_tests NoneHolds not_rising le_bytes le_value shift_bit shifts crc_from crc32 object_sum
file-whole = record {
  walked = ((refl, (refl, (refl, (refl, tt)))), ((refl, (refl, (refl, (refl, tt)))), ((refl, (refl, (refl, (refl, tt)))), tt)));
  entered = (inl (refl, refl), (inr (inr (inl (refl, refl))), (inr (inr (inr (inl (refl, refl)))), tt)));
  stored = at;
  repeats = refl;
}
  where
    at : (x l : ℕ) → Has entries x l → delete_of l ≡ false → StartsAt (objects_in objects) x (position_of l)
    at x l (inl (p, q)) d = inl (p, ap position_of q)
    at x l (inr (inl (p, q))) d = absurd (true≢false (ap delete_of q ∙ d))
    at x l (inr (inr (inl (p, q)))) d = inr (inl (p, ap position_of q))
    at x l (inr (inr (inr (inl (p, q))))) d = inr (inr (inl (p, ap position_of q)))
    at x l (inr (inr (inr (inr h)))) d = absurd h

-- a reopening accepts it
reopened : (reopen_call foreign).answer ≡ accepted []
unfolding any zeros keep each greatest padded out_of_range label_bytes five_in label_in out_of_bounds lengths_in_range object_bytes decide files_in overlapping not_rising latest latest_from table_of reopen_tests opened reopen_call in_ranges heap_in_range slot_tests view_in views_in listed trailer_tests entries_from entries_in misplaced le_bytes le_value groups_of read_groups number_in shift_bit shifts crc_from crc32 object_sum masked_of digits_in bytes_of_slot given_up
reopened = refl

-- LAW: it is clean
pub foreign-clean : Clean foreign
unfolding any zeros each padded label_bytes object_bytes listed le_bytes groups_of shift_bit shifts crc_from crc32 object_sum
foreign-clean = record { bytes = all-bytes foreign.heap refl; reopens = reopened; whole = λ k f h. at k f (sym (ap (λ (vs : List View). view_at vs k) views) ∙ h) }
  where
    at : (k : ℕ) (f : File) → view_at (holds file ∷ empty ∷ []) k ≡ holds f → WholeFile f
    at zero f h = subst WholeFile (holds-inj h) file-whole
    at (suc zero) f h = absurd (not-empty h)
    at (suc (suc k)) f h = absurd (not-empty h)

-- what ids 3, 4, 5 and 6 read as, and that a rewrite of its generation is refused with 3, the nightly job too, and a write with 7
pub foreign-answers :
    (got (reopen_call foreign).world 3 ∷ got (reopen_call foreign).world 4 ∷ got (reopen_call foreign).world 5 ∷ got (reopen_call foreign).world 6 ∷ []
    ≡ bytes (0x42 ∷ 0x43 ∷ []) ∷ deleted ∷ bytes (0x44 ∷ []) ∷ never ∷ [])
    × ((rewrite_call (reopen_call foreign).world 3 3 (mark_of (reopen_call foreign).world) (count_of (reopen_call foreign).world)).answer ≡ refused ObjectSize)
    × ((nightly_call (reopen_call foreign).world 3).answer ≡ maintain_given (Err (stopped_with ObjectSize 3 0)))
    × ((write_call (reopen_call foreign).world (0x03 ∷ 0x00 ∷ [])).answer ≡ refused PositionsSpent)
unfolding any zeros keep each sum greatest padded operation_at batch_from batch_in any_too_large out_of_range not_the_states bad_record bad_from condition_one is_empty no_files slots_where empty_slots leads lead_from file_for file_count room_tests position_tests label_bytes five_in label_in out_of_bounds table_ids table_locations alternating lengths_in_range form_from in_form used_in used_entries laid_out worth_it cut_off joining split_from files_of object_bytes stored_at objects_of entries_of file_bytes joined settled decide files_in overlapping not_rising latest latest_from table_of reopen_tests mapped_into records_from next_after opened reopen_call in_ranges heap_in_range same_settings slot_tests view_in views_in lookup insert insert_all listed trailer_bytes trailer_tests entries_from entries_in misplaced too_many_ids write_tests write_call le_bytes le_value groups_of read_groups number_in shift_bit shifts crc_from crc32 object_sum masked_of digits_in is_claimed is_candidate group moved_tests delete_tests deletes_of file_tests objects_found deletes_found found group_tests rewrite_group rewrite_tests generation_rewritten rewrite_of job_from job_of nightly_call objects_from objects_in bad_checksum object_tests read_of bytes_of_slot given_up
foreign-answers = (refl, refl, refl, refl)
