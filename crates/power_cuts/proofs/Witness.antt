-- Request P8 worked out on a small store: calls cut behind some of their stores, the memory lost, and what the reopening then finds.
use Rattle.std.specs.Prelude.{◌≡◌, refl, ◌∷◌}
use Rattle.checksum.specs.Checksum.{shift_bit, shifts, crc_from, crc32, object_sum}
use Rattle.disk_location.specs.Locations.{masked_of, digits_in}
use Rattle.numbers.specs.Groups.{groups_of, read_groups, number_in}
use Rattle.numbers.specs.LittleEndian.{le_bytes, le_value}
use Rattle.power_cuts.specs.Runs.{files_run, write_run, prune_run, group_run, generation_run, rewrite_run}
use Rattle.rules.specs.Base.{any, zeros, keep, each, sum, greatest, padded, []}
use Rattle.rules.specs.Batch.{put_operation, operation_at, batch_from, batch_in, any_too_large}
use Rattle.rules.specs.Claims.{is_claimed}
use Rattle.rules.specs.Condition1.{out_of_range, not_the_states, bad_record, bad_from, condition_one}
use Rattle.rules.specs.FileMap.{is_empty, no_files, slots_where, empty_slots, lowest_empty, leads, lead_from, file_for, file_count}
use Rattle.rules.specs.Install.{new_label, new_record, losing, records_with, stores_for, table_with, next_with, installed, installed_all, room_tests, position_tests}
use Rattle.rules.specs.Label.{label_bytes, five_in, label_in, out_of_bounds}
use Rattle.rules.specs.Layout.{table_ids, table_locations, alternating, lengths_in_range, form_from, in_form, used_in, used_entries, laid_out}
use Rattle.rules.specs.Maintenance.{worth_it, cut_off, joining, split_from, files_of, is_candidate, group, moved_tests, delete_tests, deletes_of, file_tests, objects_found, deletes_found, found, group_tests, rewrite_group}
use Rattle.rules.specs.TwoCalls.{rewrite_tests, generation_rewritten, rewrite_of}
use Rattle.rules.specs.Object.{object_bytes, stored_at, objects_from, objects_in, bad_checksum}
use Rattle.rules.specs.Ops.{objects_of, entries_of, file_bytes, joined, settled}
use Rattle.rules.specs.Prune.{is_dead, emptied_from, prune_stores, pruned, prune_call}
use Rattle.rules.specs.Read.{object_tests, read_of}
use Rattle.rules.specs.Refusal.{decide}
use Rattle.rules.specs.Reopen.{files_in, overlapping, not_rising, latest, latest_from, table_of, reopen_tests, mapped_into, records_from, next_after, opened, reopen_call, given_up}
use Rattle.rules.specs.Settings.{in_ranges, heap_in_range, same_settings}
use Rattle.rules.specs.SettledLaws.{last_on}
use Rattle.rules.specs.SlotFile.{slot_tests, view_in, views_in, bytes_of_slot}
use Rattle.rules.specs.Stores.{made, stores_of, file_stores}
use Rattle.rules.specs.Table.{lookup, insert, insert_all}
use Rattle.rules.specs.Trailer.{listed, trailer_bytes, trailer_tests, entries_from, entries_in, misplaced}
use Rattle.rules.specs.Write.{too_many_ids, write_tests, written, write_call}
use Rattle.history_theory.specs.History.{write, rewrite, prune, quiet, called}
use Rattle.history_theory.specs.Quiet.{plan}
use Rattle.history_theory.specs.Writes.{bytes}
use Rattle.power_cuts.specs.Witness.{first, again, rewriting, lost, finding, cuts_at, old, new}

-- a write of 49 bytes of file and 64 of label: as before until the last store is made. A plan, which stores nothing, a rewrite of that file, as long
-- as a write, and a prune of its old slot, one store: always as before. Put again, and the file that it left pruned: one store, read as put again.
pub cuts :
    cuts_at first again (0 ∷ 1 ∷ 49 ∷ 50 ∷ 112 ∷ 113 ∷ [])
    ∷ cuts_at first (quiet (plan 1)) (0 ∷ [])
    ∷ cuts_at first rewriting (0 ∷ 1 ∷ 49 ∷ 112 ∷ 113 ∷ [])
    ∷ cuts_at (called first rewriting).world prune (0 ∷ 1 ∷ [])
    ∷ cuts_at (called first again).world prune (0 ∷ 1 ∷ [])
    ∷ []
    ≡ record { stores = 113; found = old ∷ old ∷ old ∷ old ∷ old ∷ new 1 ∷ [] }
    ∷ record { stores = 0; found = old ∷ [] }
    ∷ record { stores = 113; found = old ∷ old ∷ old ∷ old ∷ old ∷ [] }
    ∷ record { stores = 1; found = old ∷ old ∷ [] }
    ∷ record { stores = 1; found = new 0 ∷ new 0 ∷ [] }
    ∷ []
unfolding any zeros keep each sum greatest padded put_operation operation_at batch_from batch_in any_too_large out_of_range not_the_states bad_record bad_from condition_one is_empty no_files slots_where empty_slots lowest_empty leads lead_from file_for file_count new_record new_label losing records_with stores_for table_with next_with installed installed_all room_tests position_tests label_bytes five_in label_in out_of_bounds table_ids table_locations alternating lengths_in_range form_from in_form used_in used_entries laid_out worth_it cut_off joining split_from files_of object_bytes stored_at objects_of entries_of file_bytes joined settled decide files_in overlapping not_rising latest latest_from table_of reopen_tests mapped_into records_from next_after opened reopen_call in_ranges heap_in_range same_settings slot_tests view_in views_in made stores_of file_stores lookup insert insert_all listed trailer_bytes trailer_tests entries_from entries_in misplaced too_many_ids write_tests written write_call le_bytes le_value groups_of read_groups number_in shift_bit shifts crc_from crc32 object_sum masked_of digits_in is_dead emptied_from prune_stores pruned prune_call is_candidate group moved_tests delete_tests deletes_of file_tests objects_found deletes_found found group_tests rewrite_group rewrite_tests generation_rewritten rewrite_of objects_from objects_in bad_checksum object_tests read_of bytes_of_slot last_on given_up is_claimed files_run write_run prune_run group_run generation_run rewrite_run lost finding cuts_at
cuts = refl
