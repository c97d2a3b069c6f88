-- "Lines to hold, both sides": lines P1 to P10, and the default of request P10; one table and one proved statement.
use Rattle.rules.specs.Base.{false, not, any, zeros, keep, each, sum, greatest, padded}
use Rattle.std.specs.Prelude.{◌≡◌, refl, ◌-◌}
use Rattle.numbers.specs.LittleEndian.{le_bytes, le_value}
use Rattle.numbers.specs.Groups.{groups_of, read_groups, number_in}
use Rattle.checksum.specs.Checksum.{shift_bit, shifts, crc_from, crc32, object_sum}
use Rattle.disk_location.specs.Locations.{masked_of, digits_in}
use Rattle.rules.specs.Refusal.{decide}
use Rattle.rules.specs.Settings.{in_ranges, heap_in_range, same_settings}
use Rattle.rules.specs.Object.{object_bytes, stored_at}
use Rattle.rules.specs.Trailer.{listed, trailer_bytes, trailer_tests, entries_from, entries_in, misplaced}
use Rattle.rules.specs.Ops.{objects_of, entries_of, file_bytes, joined, settled}
use Rattle.rules.specs.Label.{label_bytes, five_in, label_in, out_of_bounds}
use Rattle.rules.specs.SlotFile.{bytes_of_slot, slot_tests, view_in, views_in}
use Rattle.rules.specs.Table.{lookup, insert, insert_all}
use Rattle.rules.specs.Layout.{table_ids, table_locations, alternating, lengths_in_range, form_from, in_form, used_in, used_entries, laid_out}
use Rattle.rules.specs.Positions.{relative_given, absolute_given}
use Rattle.rules.specs.FileMap.{is_empty, no_files, slots_where, empty_slots, lowest_empty, leads, lead_from, file_for, file_count}
use Rattle.rules.specs.Condition1.{out_of_range, not_the_states, bad_record, bad_from, condition_one}
use Rattle.rules.specs.Batch.{put_operation, operation_at, batch_from, batch_in, any_too_large}
use Rattle.rules.specs.Stores.{made, stores_of, file_stores}
use Rattle.rules.specs.Install.{new_label, new_record, losing, records_with, stores_for, table_with, next_with, installed, installed_all, room_tests, position_tests}
use Rattle.rules.specs.Write.{too_many_ids, write_tests, written, write_call}
use Rattle.rules.specs.Maintenance.{worth_it, cut_off, joining, split_from, files_of}
use Rattle.rules.specs.Reopen.{files_in, overlapping, not_rising, latest, latest_from, table_of, reopen_tests, mapped_into, records_from, next_after, opened, reopen_call}
use Rattle.rules.specs.Listing.{decimal, written_in, listing}
use Rattle.rules.specs.Lines.{Line, lines, agree}

-- no line differs
pub lines-hold : any (λ (l : Line). not (agree l.ours l.paper)) lines ≡ false
unfolding lines relative_given absolute_given any zeros keep each sum greatest padded put_operation operation_at batch_from batch_in any_too_large out_of_range not_the_states bad_record bad_from condition_one is_empty no_files slots_where empty_slots lowest_empty leads lead_from file_for file_count new_label new_record losing records_with stores_for table_with next_with installed installed_all room_tests position_tests label_bytes five_in label_in out_of_bounds table_ids table_locations alternating lengths_in_range form_from in_form used_in used_entries laid_out decimal written_in listing worth_it cut_off joining split_from files_of object_bytes stored_at objects_of entries_of file_bytes joined settled decide files_in overlapping not_rising latest latest_from table_of reopen_tests mapped_into records_from next_after opened reopen_call in_ranges heap_in_range same_settings bytes_of_slot slot_tests view_in views_in made stores_of file_stores lookup insert insert_all listed trailer_bytes trailer_tests entries_from entries_in misplaced too_many_ids write_tests written write_call le_bytes le_value groups_of read_groups number_in shift_bit shifts crc_from crc32 object_sum masked_of digits_in
lines-hold = refl
