-- Request P7, "Maintenance in two calls", at single points: plan, rewrite and the nightly job, worked out and held against the paper's words.
use Rattle.std.specs.Prelude.{◌≡◌, refl, ◌∷◌, ◌++◌, ◌+◌, ◌-◌, ◌*◌, ◌^◌}
use Rattle.rules.specs.Base.{false, not, List, [], ℕ, replicate, any, zeros, keep, each, sum, greatest, padded}
use Rattle.theory.specs.Types.{Label}
use Rattle.numbers.specs.LittleEndian.{le_bytes, le_value}
use Rattle.numbers.specs.Groups.{groups_of, read_groups, number_in}
use Rattle.checksum.specs.Checksum.{shift_bit, shifts, crc_from, crc32, object_sum}
use Rattle.disk_location.specs.Locations.{masked_of, digits_in}
use Rattle.rules.specs.Refusal.{decide}
use Rattle.rules.specs.Settings.{in_ranges, heap_in_range, same_settings}
use Rattle.rules.specs.Object.{object_bytes, stored_at, objects_from, objects_in, bad_checksum}
use Rattle.rules.specs.Trailer.{listed, trailer_bytes, trailer_tests, entries_from, entries_in, misplaced}
use Rattle.rules.specs.Ops.{objects_of, entries_of, file_bytes, joined, settled}
use Rattle.rules.specs.Label.{label_bytes, five_in, label_in, out_of_bounds}
use Rattle.rules.specs.SlotFile.{bytes_of_slot, slot_tests, view_in, views_in}
use Rattle.rules.specs.Table.{lookup, insert, insert_all, full}
use Rattle.rules.specs.Layout.{table_ids, table_locations, alternating, lengths_in_range, form_from, in_form, used_in, used_entries, laid_out}
use Rattle.rules.specs.FileMap.{recorded, is_empty, no_files, slots_where, empty_slots, lowest_empty, leads, lead_from, file_for, file_count}
use Rattle.rules.specs.Condition1.{out_of_range, not_the_states, bad_record, bad_from, condition_one}
use Rattle.rules.specs.Batch.{put_operation, operation_at, batch_from, batch_in, any_too_large}
use Rattle.rules.specs.Stores.{made, stores_of, file_stores}
use Rattle.rules.specs.Install.{new_label, new_record, losing, records_with, stores_for, table_with, next_with, installed, installed_all, room_tests, position_tests}
use Rattle.rules.specs.TableCalls.{load_call, store_call, compare_call, greater_call, with_stored}
use Rattle.rules.specs.Write.{too_many_ids, write_tests, written, write_call}
use Rattle.rules.specs.Read.{object_tests, read_of, read_call}
use Rattle.rules.specs.Claims.{is_claimed, claim_set, claim_cleared, claim_call, release_call}
use Rattle.rules.specs.Prune.{is_dead, emptied_from, prune_stores, pruned, prune_call}
use Rattle.rules.specs.Counts.{counts_of, counts_call}
use Rattle.rules.specs.Listing.{decimal}
use Rattle.rules.specs.Maintenance.{worth_it, cut_off, joining, split_from, files_of, is_candidate, group, moved_tests, delete_tests, deletes_of, file_tests, objects_found, deletes_found, found, group_tests, rewrite_group, groups_from, course_of, maintain_call}
use Rattle.rules.specs.Reopen.{files_in, overlapping, not_rising, latest, latest_from, table_of, reopen_tests, mapped_into, records_from, next_after, opened, given_up, reopen_call}
use Rattle.rules.specs.Positions.{relative_given}
use Rattle.rules.specs.World.{World}
use Rattle.rules.specs.Lines.{Line, told, mapping, agree}
use Rattle.orders.specs.Worlds.{two, labelled, slot, holding, seen_at}
use Rattle.rules.specs.TwoCalls.{planned_slots, foretold_tests, foretold, foretold_from, forecast_of, plan_values, plan_call, rewrite_tests, generation_rewritten, rewrite_of, rewrite_call, job_from, job_of, nightly_call}

-- ---- two groups of one file each, which has one delete: generation 1 in slot 0, generation 2 in slot 1; then so many empty slots
abbrev pub two_groups : ℕ → ℕ → World
two_groups free next =
    let a = labelled 50 0 28 1 in
    let b : Label = record { lsn = 100; trailer_offset = 0; file_size = 28; present_objects = 1; generation = 1 } in
    holding (recorded a 1 1 ∷ recorded b 1 1 ∷ []) next
    (slot a (trailer_bytes (mapping 3 1 ∷ [])) ++ (slot b (trailer_bytes (mapping 4 1 ∷ [])) ++ replicate (free * 128) 0)) (two 3 101 4 201)

-- ---- the table
unfoldable pub two_call_points : List Line
two_call_points =
    -- "mark, the next position, and the file count"; "which generations, which slots, how many files and bytes": of three slots, of four
    record {
      ours = told (plan_call (two_groups 1 300) 2) ++ told (plan_call (two_groups 2 300) 2);
      -- one empty slot: the second group, which has none left, is refused with 5, and its slot is named all the same
      paper = 0 ∷ 300 ∷ 2 ∷ 1 ∷ 28 ∷ 5 ∷ 2 ∷ 1 ∷ 0 ∷ 1 ∷ 1 ∷ 0
          ∷ 0 ∷ 300 ∷ 2 ∷ 2 ∷ 56 ∷ 0 ∷ 0 ∷ 1 ∷ 0 ∷ 1 ∷ 1 ∷ 0 ∷ [];
    }
    -- "the base grows from group to group": one position is left, then none
    ∷ record {
      ours = told (plan_call (two_groups 2 (2 ^ 62 - 1)) 2) ++ told (plan_call (two_groups 2 (2 ^ 62 - 2)) 2);
      paper = 0 ∷ (2 ^ 62 - 1) ∷ 2 ∷ 1 ∷ 28 ∷ 7 ∷ 2 ∷ 1 ∷ 0 ∷ 1 ∷ 1 ∷ 0
          ∷ 0 ∷ (2 ^ 62 - 2) ∷ 2 ∷ 2 ∷ 56 ∷ 0 ∷ 0 ∷ 1 ∷ 0 ∷ 1 ∷ 1 ∷ 0 ∷ [];
    }
    -- "a record at or above the next position is in no group of a plan either": 101, 100, 50
    ∷ record {
      ours = told (plan_call (two_groups 2 101) 2) ++ (told (plan_call (two_groups 2 100) 2) ++ told (plan_call (two_groups 2 50) 2));
      paper = 0 ∷ 101 ∷ 2 ∷ 2 ∷ 56 ∷ 0 ∷ 0 ∷ 1 ∷ 0 ∷ 1 ∷ 1 ∷ 0
          ∷ 0 ∷ 100 ∷ 2 ∷ 1 ∷ 28 ∷ 0 ∷ 0 ∷ 1 ∷ 0 ∷ 0 ∷ 0
          ∷ 0 ∷ 50 ∷ 2 ∷ 0 ∷ 0 ∷ 0 ∷ 0 ∷ 0 ∷ 0 ∷ 0 ∷ [];
    }
    -- notes for a table of two entries: one short, and of generation 4 too; "22, after 1": 0, 4; a plan
    ∷ record {
      ours =
          told (rewrite_call (two_groups 1 300) 1 1 300 2).answer
          ++ (told (rewrite_call (two_groups 1 300) 1 4 300 2).answer
          ++ (told (rewrite_call (two_groups 1 300) 2 0 300 2).answer
          ++ (told (rewrite_call (two_groups 1 300) 2 4 300 2).answer
          ++ (told (plan_call (two_groups 1 300) 1) ++ told (nightly_call (two_groups 1 300) 1).answer))));
      paper = 1 ∷ 1 ∷ 22 ∷ 22 ∷ 1 ∷ 1 ∷ 0 ∷ 0 ∷ [];
    }
    -- "a generation that yields no group succeeds with count 0": 3; a mark of 50, of 51; a second one, of generation 2, has no slot left
    ∷ record {
      ours =
          told (rewrite_call (two_groups 1 300) 2 3 300 2).answer
          ++ (told (rewrite_call (two_groups 1 300) 2 1 50 2).answer
          ++ (told (rewrite_call (two_groups 1 300) 2 1 51 2).answer
          ++ told (rewrite_call (rewrite_call (two_groups 1 300) 2 1 300 2).world 2 2 300 2).answer));
      paper = 0 ∷ 0 ∷ 0 ∷ 0 ∷ 0 ∷ 1 ∷ 5 ∷ [];
    }
    -- it "prunes nothing": the rewritten file, with nothing live, stays; the new one is at the mark, so a rewrite of generation 2 leaves it; with a mark above it, not
    ∷ record {
      ours =
          let v = (rewrite_call (two_groups 2 300) 2 1 300 2).world in
          seen_at v 0 ++ (seen_at v 2 ++ (v.state.next_position ∷ (told (rewrite_call v 2 2 300 2).answer ++ told (rewrite_call v 2 2 301 3).answer)));
      paper = 50 ∷ 0 ∷ 0 ∷ 50 ∷ 300 ∷ 1 ∷ 1 ∷ 172 ∷ 301 ∷ 0 ∷ 1 ∷ 0 ∷ 2 ∷ [];
    }
    -- the nightly job: stopped in generation 2 after one id; two ids moved, and pruned
    ∷ record {
      ours =
          told (nightly_call (two_groups 1 300) 2).answer
          ++ (seen_at (nightly_call (two_groups 1 300) 2).world 0
          ++ (told (nightly_call (two_groups 2 300) 2).answer ++ seen_at (nightly_call (two_groups 2 300) 2).world 0));
      paper = 5 ∷ 2 ∷ 1 ∷ 50 ∷ 0 ∷ 0 ∷ 50 ∷ 0 ∷ 2 ∷ 0 ∷ 0 ∷ 0 ∷ 0 ∷ [];
    }
    ∷ []

-- LAW: no row differs
pub two-calls-hold : any (λ (l : Line). not (agree l.ours l.paper)) two_call_points ≡ false
unfolding two_call_points planned_slots foretold_tests foretold foretold_from forecast_of plan_values plan_call rewrite_tests generation_rewritten rewrite_of job_from job_of nightly_call any zeros keep each sum greatest padded put_operation operation_at batch_from batch_in any_too_large out_of_range not_the_states bad_record bad_from condition_one is_empty no_files slots_where empty_slots lowest_empty leads lead_from file_for file_count new_label new_record losing records_with stores_for table_with next_with installed installed_all room_tests position_tests label_bytes five_in label_in out_of_bounds table_ids table_locations alternating lengths_in_range form_from in_form used_in used_entries laid_out worth_it cut_off joining split_from files_of object_bytes stored_at objects_from objects_in bad_checksum objects_of entries_of file_bytes joined settled decide files_in overlapping not_rising latest latest_from table_of reopen_tests mapped_into records_from next_after opened given_up reopen_call in_ranges heap_in_range same_settings bytes_of_slot slot_tests view_in views_in made stores_of file_stores lookup insert insert_all full listed trailer_bytes trailer_tests entries_from entries_in misplaced too_many_ids write_tests written write_call load_call store_call compare_call greater_call with_stored is_dead emptied_from prune_stores pruned is_claimed claim_set claim_cleared claim_call release_call is_candidate group moved_tests delete_tests deletes_of file_tests objects_found deletes_found found group_tests rewrite_group groups_from course_of maintain_call object_tests read_of le_bytes le_value groups_of read_groups number_in shift_bit shifts crc_from crc32 object_sum masked_of digits_in read_call counts_of counts_call prune_call decimal relative_given
two-calls-hold = refl
