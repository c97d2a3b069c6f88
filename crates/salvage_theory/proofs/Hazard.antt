-- Request P9, what a salvage cannot know: as soon as one slot is given up an id may read as an older version, and a delete may be undone.
use Rattle.std.specs.Prelude.{◌≡◌, refl, ◌∷◌}
use Rattle.checksum.specs.Checksum.{shift_bit, shifts, crc_from, crc32, object_sum}
use Rattle.disk_location.specs.Locations.{masked_of, digits_in}
use Rattle.numbers.specs.Groups.{groups_of, read_groups, number_in}
use Rattle.numbers.specs.LittleEndian.{le_bytes, le_value}
use Rattle.rules.specs.Base.{any, zeros, keep, each, sum, greatest, padded, []}
use Rattle.rules.specs.Batch.{put_operation, operation_at, batch_from, batch_in, any_too_large}
use Rattle.rules.specs.Condition1.{out_of_range, not_the_states, bad_record, bad_from, condition_one}
use Rattle.rules.specs.FileMap.{is_empty, no_files, slots_where, empty_slots, lowest_empty, leads, lead_from, file_for}
use Rattle.rules.specs.Install.{new_label, new_record, losing, records_with, stores_for, table_with, next_with, installed, installed_all, room_tests, position_tests}
use Rattle.rules.specs.Label.{label_bytes, five_in, label_in, out_of_bounds}
use Rattle.rules.specs.Layout.{table_ids, table_locations, alternating, lengths_in_range, form_from, in_form, used_in, used_entries, laid_out}
use Rattle.rules.specs.Object.{object_bytes, stored_at, objects_from, objects_in, bad_checksum}
use Rattle.rules.specs.Ops.{objects_of, entries_of, file_bytes, joined, settled}
use Rattle.rules.specs.Read.{object_tests, read_of}
use Rattle.rules.specs.Refusal.{decide}
use Rattle.rules.specs.Reopen.{files_in, overlapping, not_rising, latest, latest_from, table_of, reopen_tests, mapped_into, records_from, next_after, opened, reopen_call, given_up}
use Rattle.rules.specs.Settings.{in_ranges, heap_in_range, same_settings}
use Rattle.rules.specs.SlotFile.{slot_tests, view_in, views_in, bytes_of_slot}
use Rattle.rules.specs.Stores.{made, stores_of, file_stores}
use Rattle.rules.specs.Table.{lookup, insert, insert_all}
use Rattle.rules.specs.Trailer.{listed, trailer_bytes, trailer_tests, entries_from, entries_in, misplaced}
use Rattle.rules.specs.Write.{too_many_ids, write_tests, written, write_call}
use Rattle.history_theory.specs.History.{write, called}
use Rattle.history_theory.specs.Writes.{deleted, bytes, got}
use Rattle.numbers.specs.Parts.{front}
use Rattle.theory.specs.Types.{Checksum}
use Rattle.power_cuts.specs.Witness.{first, again}
use Rattle.faults.specs.Faults.{walked, object_faults, entry_faults, file_faults, slot_faults, faults_from, closing, faults_of}
use Rattle.check_theory.specs.Accepting.{list_of}
use Rattle.losses.specs.Salvage.{loss, first_kind, the_rest, placed, in_order, given_up_behind, second_kind, losses_in, report_of, emptying_of, salvage_call}
use Rattle.salvage_theory.specs.Reopens.{rescued}
use Rattle.salvage_theory.specs.Hazard.{newer, gone}

-- LAW: 7 read 0x42; slot 1 is given up with 10, the checker lists nothing, and 7 reads 0x41 again
pub older-again :
    (got (called first again).world 7 ≡ bytes (0x42 ∷ []))
    × (report_of newer.settings newer.heap ≡ loss 1 Checksum ∷ [])
    × (list_of (rescued newer []) ≡ [])
    × (got (reopen_call (rescued newer [])).world 7 ≡ bytes (0x41 ∷ []))
unfolding any zeros keep each sum greatest padded put_operation operation_at batch_from batch_in any_too_large out_of_range not_the_states bad_record bad_from condition_one is_empty no_files slots_where empty_slots lowest_empty leads lead_from file_for new_record new_label losing records_with stores_for table_with next_with installed installed_all room_tests position_tests label_bytes five_in label_in out_of_bounds table_ids table_locations alternating lengths_in_range form_from in_form used_in used_entries laid_out object_bytes stored_at objects_of entries_of file_bytes joined settled decide files_in overlapping not_rising latest latest_from table_of reopen_tests mapped_into records_from next_after opened reopen_call in_ranges heap_in_range same_settings slot_tests view_in views_in made stores_of file_stores lookup insert insert_all listed trailer_bytes trailer_tests entries_from entries_in misplaced too_many_ids write_tests written write_call le_bytes le_value groups_of read_groups number_in shift_bit shifts crc_from crc32 object_sum masked_of digits_in objects_from objects_in bad_checksum object_tests read_of bytes_of_slot given_up first_kind the_rest placed in_order given_up_behind second_kind losses_in emptying_of salvage_call front walked object_faults entry_faults file_faults slot_faults faults_from closing faults_of
older-again = (refl, refl, refl, refl)

-- LAW: 7 was deleted; slot 1 is given up, and 7 reads 0x41 again
pub delete-undone :
    (got (called first (write (0x07 ∷ 0x00 ∷ []))).world 7 ≡ deleted)
    × (report_of gone.settings gone.heap ≡ loss 1 Checksum ∷ [])
    × (got (reopen_call (rescued gone [])).world 7 ≡ bytes (0x41 ∷ []))
unfolding any zeros keep each sum greatest padded put_operation operation_at batch_from batch_in any_too_large out_of_range not_the_states bad_record bad_from condition_one is_empty no_files slots_where empty_slots lowest_empty leads lead_from file_for new_record new_label losing records_with stores_for table_with next_with installed installed_all room_tests position_tests label_bytes five_in label_in out_of_bounds table_ids table_locations alternating lengths_in_range form_from in_form used_in used_entries laid_out object_bytes stored_at objects_of entries_of file_bytes joined settled decide files_in overlapping not_rising latest latest_from table_of reopen_tests mapped_into records_from next_after opened reopen_call in_ranges heap_in_range same_settings slot_tests view_in views_in made stores_of file_stores lookup insert insert_all listed trailer_bytes trailer_tests entries_from entries_in misplaced too_many_ids write_tests written write_call le_bytes le_value groups_of read_groups number_in shift_bit shifts crc_from crc32 object_sum masked_of digits_in objects_from objects_in bad_checksum object_tests read_of bytes_of_slot given_up first_kind the_rest placed in_order given_up_behind second_kind losses_in emptying_of salvage_call front
delete-undone = (refl, refl, refl)
