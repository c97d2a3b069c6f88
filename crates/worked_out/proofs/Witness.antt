-- A life that was worked out, every call of demand 3 in it: a delete is moved by a rewrite while the put that it deletes still stands in a
-- claimed file, then that file's other id by the nightly job; an id is put again, the file that it leaves is pruned, and the store reopened. Each
-- file's mark is seen.
use Rattle.std.specs.Prelude.{◌≡◌, refl, ◌∷◌, Ok}
use Rattle.rules.specs.Base.{[], any, zeros, keep, each, sum, greatest, padded}
use Rattle.rules.specs.Sync.{is_unsynced, marked, too_long, sync_call, sync_state}
use Rattle.theory.specs.Types.{Claim, Generation}
use Rattle.rules.specs.World.{accepted, refused, maintain_given}
use Rattle.history_theory.specs.History.{write, rewrite, prune, reopen, quiet}
use Rattle.history_theory.specs.Quiet.{claim, release, sync, plan}
use Rattle.checksum.specs.Checksum.{shift_bit, shifts, crc_from, crc32, object_sum}
use Rattle.disk_location.specs.Locations.{masked_of, digits_in}
use Rattle.numbers.specs.Groups.{groups_of, read_groups, number_in}
use Rattle.numbers.specs.LittleEndian.{le_bytes, le_value}
use Rattle.rules.specs.Batch.{put_operation, operation_at, batch_from, batch_in, any_too_large}
use Rattle.rules.specs.Claims.{is_claimed, claim_set, claim_cleared, claim_call, release_call}
use Rattle.rules.specs.Condition1.{out_of_range, not_the_states, bad_record, bad_from, condition_one}
use Rattle.rules.specs.FileMap.{is_empty, no_files, slots_where, empty_slots, lowest_empty, leads, lead_from, file_for, file_count}
use Rattle.rules.specs.Install.{new_label, new_record, losing, records_with, stores_for, table_with, next_with, installed, installed_all, room_tests, position_tests}
use Rattle.rules.specs.Label.{label_bytes, five_in, label_in, out_of_bounds}
use Rattle.rules.specs.Layout.{table_ids, table_locations, alternating, lengths_in_range, form_from, in_form, used_in, used_entries, laid_out}
use Rattle.rules.specs.Maintenance.{worth_it, cut_off, joining, split_from, files_of, is_candidate, group, moved_tests, delete_tests, deletes_of, file_tests, objects_found, deletes_found, found, group_tests, rewrite_group}
use Rattle.rules.specs.TwoCalls.{planned_slots, foretold_tests, foretold, foretold_from, forecast_of, plan_values, plan_call, rewrite_tests, generation_rewritten, rewrite_of, job_from, job_of, nightly_call}
use Rattle.rules.specs.Object.{object_bytes, stored_at, objects_from, objects_in, bad_checksum}
use Rattle.rules.specs.Ops.{objects_of, entries_of, file_bytes, joined, settled}
use Rattle.rules.specs.Prune.{is_dead, emptied_from, prune_stores, pruned, prune_call}
use Rattle.rules.specs.Read.{object_tests, read_of}
use Rattle.rules.specs.Refusal.{decide}
use Rattle.rules.specs.Reopen.{files_in, overlapping, not_rising, latest, latest_from, table_of, reopen_tests, mapped_into, records_from, next_after, opened, reopen_call, given_up}
use Rattle.rules.specs.Settings.{in_ranges, heap_in_range, same_settings}
use Rattle.rules.specs.SettledLaws.{last_on}
use Rattle.rules.specs.SlotFile.{slot_tests, view_in, views_in, bytes_of_slot}
use Rattle.rules.specs.Stores.{made, stores_of, file_stores}
use Rattle.rules.specs.Table.{lookup, insert, insert_all}
use Rattle.rules.specs.Trailer.{listed, trailer_bytes, trailer_tests, entries_from, entries_in, misplaced}
use Rattle.rules.specs.Write.{too_many_ids, write_tests, written, write_call}
use Rattle.history_theory.specs.Writes.{never, deleted, bytes}
use Rattle.worked_out.specs.Witness.{small, none, clear, set, seen, call, job, stages}

-- The plan gives mark 88, 3 files, and that slot 1 alone would be rewritten, to generation 1. A mark of 44 is not above slot 1's lsn, so nothing is
-- moved; with the plan's, the rewrite moves the deletes of 6, never put, and of 7 out of slot 1, which the prune empties; both stay deleted for the
-- reopening, though 7's put stands in slot 0. That reopening cleared the claim, so the release is refused, and the job moves 8 out of slot 0, which it
-- prunes. Each file written, by a write or by a rewrite, has its mark clear until a sync or a reopening.
pub moves :
    stages (reopen_call small) (
    call (write (0x07 ∷ 0x01 ∷ 0x01 ∷ 0x41 ∷ 0x08 ∷ 0x01 ∷ 0x01 ∷ 0x42 ∷ []))
    ∷ call (write (0x06 ∷ 0x00 ∷ 0x07 ∷ 0x00 ∷ 0x09 ∷ 0x01 ∷ 0x01 ∷ 0x43 ∷ []))
    ∷ call (write (0x09 ∷ 0x01 ∷ 0x01 ∷ 0x44 ∷ []))
    ∷ call (quiet sync)
    ∷ call (quiet (claim 0))
    ∷ call (quiet (plan 4))
    ∷ call (rewrite 4 4 88 3)
    ∷ call (rewrite 4 1 44 3)
    ∷ call (rewrite 4 1 88 3)
    ∷ call prune
    ∷ call reopen
    ∷ call (quiet (release 0))
    ∷ job 4
    ∷ call (write (0x09 ∷ 0x01 ∷ 0x01 ∷ 0x45 ∷ []))
    ∷ call prune
    ∷ call (quiet sync)
    ∷ call (quiet sync)
    ∷ call reopen
    ∷ []
    )
    ≡ record { answer = accepted []; files = none ∷ none ∷ none ∷ none ∷ []; reads = never ∷ never ∷ never ∷ never ∷ [] }
    ∷ record { answer = accepted []; files = clear ∷ none ∷ none ∷ none ∷ []; reads = never ∷ bytes (0x41 ∷ []) ∷ bytes (0x42 ∷ []) ∷ never ∷ [] }
    ∷ record { answer = accepted []; files = clear ∷ clear ∷ none ∷ none ∷ []; reads = deleted ∷ deleted ∷ bytes (0x42 ∷ []) ∷ bytes (0x43 ∷ []) ∷ [] }
    ∷ record { answer = accepted []; files = clear ∷ clear ∷ clear ∷ none ∷ []; reads = deleted ∷ deleted ∷ bytes (0x42 ∷ []) ∷ bytes (0x44 ∷ []) ∷ [] }
    ∷ record { answer = accepted (1 ∷ []); files = set ∷ set ∷ set ∷ none ∷ []; reads = deleted ∷ deleted ∷ bytes (0x42 ∷ []) ∷ bytes (0x44 ∷ []) ∷ [] }
    ∷ record { answer = accepted []; files = set ∷ set ∷ set ∷ none ∷ []; reads = deleted ∷ deleted ∷ bytes (0x42 ∷ []) ∷ bytes (0x44 ∷ []) ∷ [] }
    ∷ record { answer = accepted (88 ∷ 3 ∷ 1 ∷ 44 ∷ 0 ∷ 0 ∷ 1 ∷ 1 ∷ 0 ∷ 0 ∷ []); files = set ∷ set ∷ set ∷ none ∷ []; reads = deleted ∷ deleted ∷ bytes (0x42 ∷ []) ∷ bytes (0x44 ∷ []) ∷ [] }
    ∷ record { answer = refused Generation; files = set ∷ set ∷ set ∷ none ∷ []; reads = deleted ∷ deleted ∷ bytes (0x42 ∷ []) ∷ bytes (0x44 ∷ []) ∷ [] }
    ∷ record { answer = accepted (0 ∷ []); files = set ∷ set ∷ set ∷ none ∷ []; reads = deleted ∷ deleted ∷ bytes (0x42 ∷ []) ∷ bytes (0x44 ∷ []) ∷ [] }
    ∷ record { answer = accepted (2 ∷ []); files = set ∷ set ∷ set ∷ clear ∷ []; reads = deleted ∷ deleted ∷ bytes (0x42 ∷ []) ∷ bytes (0x44 ∷ []) ∷ [] }
    ∷ record { answer = accepted []; files = set ∷ none ∷ set ∷ clear ∷ []; reads = deleted ∷ deleted ∷ bytes (0x42 ∷ []) ∷ bytes (0x44 ∷ []) ∷ [] }
    ∷ record { answer = accepted []; files = set ∷ none ∷ set ∷ set ∷ []; reads = deleted ∷ deleted ∷ bytes (0x42 ∷ []) ∷ bytes (0x44 ∷ []) ∷ [] }
    ∷ record { answer = refused Claim; files = set ∷ none ∷ set ∷ set ∷ []; reads = deleted ∷ deleted ∷ bytes (0x42 ∷ []) ∷ bytes (0x44 ∷ []) ∷ [] }
    ∷ record { answer = maintain_given (Ok 1); files = none ∷ clear ∷ set ∷ set ∷ []; reads = deleted ∷ deleted ∷ bytes (0x42 ∷ []) ∷ bytes (0x44 ∷ []) ∷ [] }
    ∷ record { answer = accepted []; files = clear ∷ clear ∷ set ∷ set ∷ []; reads = deleted ∷ deleted ∷ bytes (0x42 ∷ []) ∷ bytes (0x45 ∷ []) ∷ [] }
    ∷ record { answer = accepted []; files = clear ∷ clear ∷ none ∷ set ∷ []; reads = deleted ∷ deleted ∷ bytes (0x42 ∷ []) ∷ bytes (0x45 ∷ []) ∷ [] }
    ∷ record { answer = accepted (1 ∷ []); files = set ∷ set ∷ none ∷ set ∷ []; reads = deleted ∷ deleted ∷ bytes (0x42 ∷ []) ∷ bytes (0x45 ∷ []) ∷ [] }
    ∷ record { answer = accepted (0 ∷ []); files = set ∷ set ∷ none ∷ set ∷ []; reads = deleted ∷ deleted ∷ bytes (0x42 ∷ []) ∷ bytes (0x45 ∷ []) ∷ [] }
    ∷ record { answer = accepted []; files = set ∷ set ∷ none ∷ set ∷ []; reads = deleted ∷ deleted ∷ bytes (0x42 ∷ []) ∷ bytes (0x45 ∷ []) ∷ [] }
    ∷ []
unfolding is_unsynced marked too_long sync_call sync_state any zeros keep each sum greatest padded put_operation operation_at batch_from batch_in any_too_large out_of_range not_the_states bad_record bad_from condition_one is_empty no_files slots_where empty_slots lowest_empty leads lead_from file_for file_count new_record new_label losing records_with stores_for table_with next_with installed installed_all room_tests position_tests label_bytes five_in label_in out_of_bounds table_ids table_locations alternating lengths_in_range form_from in_form used_in used_entries laid_out worth_it cut_off joining split_from files_of object_bytes stored_at objects_of entries_of file_bytes joined settled decide files_in overlapping not_rising latest latest_from table_of reopen_tests mapped_into records_from next_after opened reopen_call in_ranges heap_in_range same_settings slot_tests view_in views_in made stores_of file_stores lookup insert insert_all listed trailer_bytes trailer_tests entries_from entries_in misplaced too_many_ids write_tests written write_call le_bytes le_value groups_of read_groups number_in shift_bit shifts crc_from crc32 object_sum masked_of digits_in is_dead emptied_from prune_stores pruned prune_call is_claimed is_candidate group moved_tests delete_tests deletes_of file_tests objects_found deletes_found found group_tests rewrite_group planned_slots foretold_tests foretold foretold_from forecast_of plan_values plan_call rewrite_tests generation_rewritten rewrite_of job_from job_of nightly_call objects_from objects_in bad_checksum object_tests read_of bytes_of_slot last_on given_up claim_set claim_cleared claim_call release_call seen stages
moves = refl
