-- "Each is given exactly when its condition holds and no earlier one in the call's order does.": one table, one statement.
-- A row goes down a call's order: in its first case every condition holds, and each later case clears the first that held.
use Rattle.std.specs.Prelude.{◌≡◌, refl, ◌∷◌, ◌++◌, ◌+◌, ◌-◌, ◌^◌}
use Rattle.rules.specs.Base.{false, not, List, [], replicate, any, zeros, keep, each, sum, greatest, padded}
use Rattle.numbers.specs.LittleEndian.{le_bytes, le_value}
use Rattle.numbers.specs.Groups.{groups_of, read_groups, number_in}
use Rattle.checksum.specs.Checksum.{shift_bit, shifts, crc_from, crc32, object_sum}
use Rattle.disk_location.specs.Locations.{masked_of, digits_in}
use Rattle.rules.specs.Refusal.{decide}
use Rattle.rules.specs.Settings.{in_ranges, heap_in_range, same_settings}
use Rattle.rules.specs.Object.{object_bytes, stored_at, objects_from, objects_in, bad_checksum}
use Rattle.rules.specs.Trailer.{listed, trailer_bytes, trailer_tests, entries_from, entries_in, misplaced}
use Rattle.rules.specs.Ops.{objects_of, entries_of, file_bytes, joined, settled}
use Rattle.rules.specs.Label.{label_bytes, five_in, label_in, out_of_bounds}
use Rattle.rules.specs.SlotFile.{bytes_of_slot, slot_tests, view_in, views_in}
use Rattle.rules.specs.Table.{lookup, insert, insert_all, full}
use Rattle.rules.specs.Layout.{table_ids, table_locations, alternating, lengths_in_range, form_from, in_form, used_in, used_entries, laid_out}
use Rattle.rules.specs.FileMap.{is_empty, no_files, slots_where, empty_slots, lowest_empty, leads, lead_from, file_for, file_count}
use Rattle.rules.specs.Condition1.{out_of_range, not_the_states, bad_record, bad_from, condition_one}
use Rattle.rules.specs.Batch.{put_operation, operation_at, batch_from, batch_in, any_too_large}
use Rattle.rules.specs.Stores.{made, stores_of, file_stores}
use Rattle.rules.specs.Install.{new_label, new_record, losing, records_with, stores_for, table_with, next_with, installed, installed_all, room_tests, position_tests}
use Rattle.rules.specs.TableCalls.{load_call, store_call, compare_call, greater_call, with_stored}
use Rattle.rules.specs.Write.{too_many_ids, write_tests, written, write_call}
use Rattle.rules.specs.Read.{object_tests, read_of, read_call}
use Rattle.rules.specs.Claims.{is_claimed, claim_set, claim_cleared, claim_call, release_call}
use Rattle.rules.specs.Prune.{is_dead, emptied_from, prune_stores, pruned}
use Rattle.rules.specs.Maintenance.{worth_it, cut_off, joining, split_from, files_of, is_candidate, group, moved_tests, delete_tests, deletes_of, file_tests, objects_found, deletes_found, found, group_tests, rewrite_group, groups_from, course_of, maintain_call}
use Rattle.rules.specs.Reopen.{files_in, overlapping, not_rising, latest, latest_from, table_of, reopen_tests, mapped_into, records_from, next_after, opened, given_up, reopen_call}
use Rattle.rules.specs.Lines.{Line, told, mapping, agree}
use Rattle.orders.specs.Worlds.{none, one, no_form, summed, mis_summed, bad_header, mismatched, busy, idle, too_large, two_puts, one_put, filed, cut_header, alone, pair, moving, trailing, twice, deleting, closed, behind}

-- "Table. .. Order: 1, 20 (a given raw 0), 18, 19, 6 (a new id in a full table)." Held: id 5 at 40, and no room for another.
unfoldable pub table_orders : List Line
table_orders =
    -- load: 1; never written; an object's location; a delete's
    record {
      ours =
          each told
          ((load_call no_form 5).answer
          ∷ (load_call (one 5 40) 6).answer
          ∷ (load_call (one 5 40) 5).answer
          ∷ (load_call (one 5 41) 5).answer
          ∷ []);
      paper = 1 ∷ 0 ∷ 0 ∷ 0 ∷ 2 ∷ 40 ∷ 0 ∷ 1 ∷ 41 ∷ [];
    }
    -- store: 1 before 20; 20 before 6; 6; an id that is there
    ∷ record {
      ours =
          each told
          ((store_call no_form 6 0).answer
          ∷ (store_call (one 5 40) 6 0).answer
          ∷ (store_call (one 5 40) 6 42).answer
          ∷ (store_call (one 5 40) 5 42).answer
          ∷ []);
      paper = 1 ∷ 20 ∷ 6 ∷ 0 ∷ [];
    }
    -- compare-and-store: 1 before 20; 20 before 18, of either raw 0; 18, and not 6; one that differs; one that does not
    ∷ record {
      ours =
          each told
          ((compare_call no_form 6 0 0).answer
          ∷ (compare_call (one 5 40) 6 0 42).answer
          ∷ (compare_call (one 5 40) 6 40 0).answer
          ∷ (compare_call (one 5 40) 6 40 42).answer
          ∷ (compare_call (one 5 40) 5 41 42).answer
          ∷ (compare_call (one 5 40) 5 40 42).answer
          ∷ []);
      paper = 1 ∷ 20 ∷ 20 ∷ 18 ∷ 0 ∷ 40 ∷ 0 ∷ [];
    }
    -- store-if-greater: 1 before 20; 20 before 6; 19, and not 6; 6; a lower one; a greater one; one of an empty table
    ∷ record {
      ours =
          each told
          ((greater_call no_form 6 0).answer
          ∷ (greater_call (one 5 40) 6 0).answer
          ∷ (greater_call (one 5 40) 5 40).answer
          ∷ (greater_call (one 5 40) 6 42).answer
          ∷ (greater_call (one 5 40) 5 38).answer
          ∷ (greater_call (one 5 40) 5 42).answer
          ∷ (greater_call none 5 42).answer
          ∷ []);
      paper = 1 ∷ 20 ∷ 19 ∷ 6 ∷ 0 ∷ 40 ∷ 0 ∷ 40 ∷ 0 ∷ [];
    }
    ∷ []

-- "Write decides 1 to 7 in order on the whole batch."
unfoldable pub write_orders : List Line
write_orders =
    -- the one slot taken, the table full, and next position 2^62; settings not the state's; a batch that ends in 80 00; a put of 17 bytes;
    -- puts too long for the slot; a put of a new id
    record {
      ours =
          each told
          ((write_call (mismatched (busy (2 ^ 62))) (too_large ++ (0x80 ∷ 0x00 ∷ []))).answer
          ∷ (write_call (busy (2 ^ 62)) (too_large ++ (0x80 ∷ 0x00 ∷ []))).answer
          ∷ (write_call (busy (2 ^ 62)) too_large).answer
          ∷ (write_call (busy (2 ^ 62)) two_puts).answer
          ∷ (write_call (busy (2 ^ 62)) (one_put 2)).answer
          ∷ []);
      paper = 1 ∷ 2 ∷ 3 ∷ 4 ∷ 5 ∷ [];
    }
    -- a slot empty: a new id; the id that is there; the same, and 2^62 reached but not passed
    ∷ record {
      ours =
          each told
          ((write_call (idle (2 ^ 62)) (one_put 2)).answer
          ∷ (write_call (idle (2 ^ 62 - 20)) (one_put 1)).answer
          ∷ (write_call (idle (2 ^ 62 - 21)) (one_put 1)).answer
          ∷ []);
      paper = 6 ∷ 7 ∷ 0 ∷ [];
    }
    -- bytes that are no batch: a tag of 2; an id not in shortest form; a body cut short
    ∷ record {
      ours =
          each told
          ((write_call (idle 100) (0x01 ∷ 0x02 ∷ 0x01 ∷ 0x41 ∷ [])).answer
          ∷ (write_call (idle 100) (0x81 ∷ 0x00 ∷ 0x00 ∷ [])).answer
          ∷ (write_call (idle 100) (0x01 ∷ 0x01 ∷ 0x02 ∷ 0x41 ∷ [])).answer
          ∷ []);
      paper = 2 ∷ 2 ∷ 2 ∷ [];
    }
    -- "An empty batch succeeds", whatever room there is
    ∷ record {
      ours =
          each told
          ((write_call (busy (2 ^ 62)) []).answer
          ∷ []);
      paper = 0 ∷ [];
    }
    ∷ []

-- "Checks in order: 18, 16 (header or body past file_size), 10, 17." Asked for id 5.
unfoldable pub read_orders : List Line
read_orders =
    -- settings not the state's; no file at or below; the header past file_size; the body past it; another checksum; another id; found
    record {
      ours =
          each told
          ((read_call (mismatched (filed (bad_header 6 100) 18)) 5).answer
          ∷ (read_call (filed (bad_header 6 100) 18) 5).answer
          ∷ (read_call (filed (bad_header 6 100) 80) 5).answer
          ∷ (read_call (filed (bad_header 6 100) 20) 5).answer
          ∷ (read_call (filed (bad_header 6 0) 20) 5).answer
          ∷ (read_call (filed (object_bytes 6 []) 20) 5).answer
          ∷ (read_call (filed (object_bytes 5 []) 20) 5).answer
          ∷ []);
      paper = 1 ∷ 18 ∷ 16 ∷ 16 ∷ 10 ∷ 17 ∷ 0 ∷ 2 ∷ 84 ∷ 0 ∷ [];
    }
    -- never written, and deleted, though no file is at or below
    ∷ record {
      ours =
          each told
          ((read_call (filed (bad_header 6 100) 18) 6).answer
          ∷ (read_call (filed (bad_header 6 100) 19) 5).answer
          ∷ []);
      paper = 0 ∷ 0 ∷ 0 ∷ 1 ∷ [];
    }
    ∷ []

-- "Claim, release.": 1, 21
unfoldable pub claim_orders : List Line
claim_orders =
    -- claim: 1 before 21; 21 of a slot out of range; a file; the same again
    record {
      ours =
          each told
          ((claim_call (mismatched (busy 1)) 1).answer
          ∷ (claim_call (busy 1) 1).answer
          ∷ (claim_call (busy 1) 0).answer
          ∷ (claim_call (claim_call (busy 1) 0).world 0).answer
          ∷ []);
      paper = 1 ∷ 21 ∷ 0 ∷ 21 ∷ [];
    }
    -- release: 1 before 21; 21 of an unclaimed file; a claimed one; a slot that is empty
    ∷ record {
      ours =
          each told
          ((release_call (mismatched (busy 1)) 0).answer
          ∷ (release_call (busy 1) 0).answer
          ∷ (release_call (claim_call (busy 1) 0).world 0).answer
          ∷ (release_call (idle 1) 1).answer
          ∷ []);
      paper = 1 ∷ 21 ∷ 0 ∷ 21 ∷ [];
    }
    ∷ []

-- "All files of a group are checked before it writes, ascending by slot: trailer (9, 10, 11), then each object: header past T (16), length ≥
-- max_object_size (3), id unmapped (18), body past T (16), checksum (10); then delete entries: sum too great (20), id unmapped (18)"; "4, 5, 7
-- are decided first, for the whole group". A refusal gives the generation and the ids moved, 1 and 0 here.
unfoldable pub group_orders : List Line
group_orders =
    -- the header past T; 1 before 9, with 0 and 0; 9 before 10; 10 before 11; 11 before 16
    record {
      ours =
          each told
          ((maintain_call (mismatched (alone cut_header (mis_summed (le_bytes 8 1 ++ replicate 7 0))))).answer
          ∷ (maintain_call (alone cut_header (mis_summed (le_bytes 8 1 ++ replicate 7 0)))).answer
          ∷ (maintain_call (alone cut_header (mis_summed (le_bytes 8 1 ++ replicate 8 0)))).answer
          ∷ (maintain_call (alone cut_header (summed (le_bytes 8 1 ++ replicate 8 0)))).answer
          ∷ []);
      paper = 1 ∷ 0 ∷ 0 ∷ 9 ∷ 1 ∷ 0 ∷ 10 ∷ 1 ∷ 0 ∷ 11 ∷ 1 ∷ 0 ∷ [];
    }
    -- a delete entry whose sum is too great; of an object the header past T before its length; that before the unmapped id 9; that before the body
    -- past T; that before the checksum; and that before the delete entry
    ∷ record {
      ours =
          each told
          ((maintain_call (alone cut_header (trailer_bytes (mapping 9 (2 ^ 64 - 1) ∷ [])))).answer
          ∷ (maintain_call (alone (bad_header 9 17) (trailer_bytes (mapping 9 (2 ^ 64 - 1) ∷ [])))).answer
          ∷ (maintain_call (alone (bad_header 9 16) (trailer_bytes (mapping 9 (2 ^ 64 - 1) ∷ [])))).answer
          ∷ (maintain_call (alone (bad_header 1 16) (trailer_bytes (mapping 9 (2 ^ 64 - 1) ∷ [])))).answer
          ∷ (maintain_call (alone (bad_header 1 0) (trailer_bytes (mapping 9 (2 ^ 64 - 1) ∷ [])))).answer
          ∷ []);
      paper = 16 ∷ 1 ∷ 0 ∷ 3 ∷ 1 ∷ 0 ∷ 18 ∷ 1 ∷ 0 ∷ 16 ∷ 1 ∷ 0 ∷ 10 ∷ 1 ∷ 0 ∷ [];
    }
    -- a delete of the unmapped id 9: a sum of 2^63 is 20, one of 2^63 - 1 is not; a delete of id 1 at that sum is nothing
    ∷ record {
      ours =
          each told
          ((maintain_call (alone (object_bytes 1 []) (trailer_bytes (mapping 9 (2 ^ 64 - 1) ∷ [])))).answer
          ∷ (maintain_call (alone (object_bytes 1 []) (trailer_bytes (mapping 9 (2 ^ 64 - 3) ∷ [])))).answer
          ∷ (maintain_call (alone (object_bytes 1 []) (trailer_bytes (mapping 1 (2 ^ 64 - 3) ∷ [])))).answer
          ∷ []);
      paper = 20 ∷ 1 ∷ 0 ∷ 18 ∷ 1 ∷ 0 ∷ 0 ∷ 1 ∷ [];
    }
    -- object by object, and file by file: a first object's checksum before a second one's header; slot 0's delete entry before slot 1's trailer
    ∷ record {
      ours =
          each told
          ((maintain_call (alone (bad_header 1 0 ++ replicate 5 0) (trailer_bytes (mapping 1 0 ∷ [])))).answer
          ∷ (maintain_call (pair (trailer_bytes (mapping 1 0 ∷ mapping 9 41 ∷ [])) (replicate 19 0) 200)).answer
          ∷ []);
      paper = 10 ∷ 1 ∷ 0 ∷ 18 ∷ 1 ∷ 0 ∷ [];
    }
    -- no slot empty and next position 2^62: two files that make one too long, 18 before 4, and 4 before 5; a short one, 5 before 7
    ∷ record {
      ours =
          each told
          ((maintain_call (pair (trailer_bytes (mapping 1 0 ∷ mapping 9 41 ∷ [])) (trailer_bytes (mapping 2 0 ∷ [])) (2 ^ 62))).answer
          ∷ (maintain_call (pair (trailer_bytes (mapping 1 0 ∷ [])) (trailer_bytes (mapping 2 0 ∷ [])) (2 ^ 62))).answer
          ∷ (maintain_call (moving [] (2 ^ 62))).answer
          ∷ []);
      paper = 18 ∷ 1 ∷ 0 ∷ 4 ∷ 1 ∷ 0 ∷ 5 ∷ 1 ∷ 0 ∷ [];
    }
    -- a slot empty: 2^62 passed; reached but not passed
    ∷ record {
      ours =
          each told
          ((maintain_call (moving (replicate 128 0) (2 ^ 62 - 20))).answer
          ∷ (maintain_call (moving (replicate 128 0) (2 ^ 62 - 21))).answer
          ∷ []);
      paper = 7 ∷ 1 ∷ 0 ∷ 0 ∷ 1 ∷ [];
    }
    ∷ []

-- "Per non-empty slot, ascending: 8, 9, 10, 11, 12, 13. Then over all: 14, 15, 6."
unfoldable pub reopen_orders : List Line
reopen_orders =
    -- a table of an odd number of words; masked lsn 0; a trailer of 19 bytes; another checksum; a count too great; an object at T; present_objects not the
    -- count. Behind it two slots overlap, one repeats an id, and the table has no room for their ids.
    record {
      ours =
          each told
          ((reopen_call (closed (trailing (2 ^ 62) 1 (replicate 19 0)) (0 ∷ 0 ∷ 0 ∷ []))).answer
          ∷ (reopen_call (behind (trailing (2 ^ 62) 1 (replicate 19 1)))).answer
          ∷ (reopen_call (behind (trailing 10 2 (mis_summed (le_bytes 8 1 ++ replicate 7 0))))).answer
          ∷ (reopen_call (behind (trailing 10 2 (mis_summed (le_bytes 8 1 ++ replicate 8 0))))).answer
          ∷ (reopen_call (behind (trailing 10 2 (summed (le_bytes 8 1 ++ replicate 8 0))))).answer
          ∷ (reopen_call (behind (trailing 10 2 (trailer_bytes (mapping 5 0 ∷ []))))).answer
          ∷ (reopen_call (behind (trailing 10 2 (trailer_bytes (mapping 5 1 ∷ []))))).answer
          ∷ []);
      paper = 1 ∷ 8 ∷ 9 ∷ 10 ∷ 11 ∷ 12 ∷ 13 ∷ [];
    }
    -- the slots behind it: they overlap; one repeats an id; the table has no room; it has
    ∷ record {
      ours =
          each told
          ((reopen_call (behind (deleting 10 5))).answer
          ∷ (reopen_call (closed (deleting 10 5 ++ (twice ++ deleting 60 4)) none)).answer
          ∷ (reopen_call (closed (deleting 10 5 ++ deleting 60 4) none)).answer
          ∷ (reopen_call (closed (deleting 10 5 ++ deleting 60 5) none)).answer
          ∷ []);
      paper = 14 ∷ 15 ∷ 6 ∷ 0 ∷ [];
    }
    -- slot by slot: slot 0's present_objects before slot 1's label
    ∷ record {
      ours =
          each told
          ((reopen_call (closed (trailing 10 2 (trailer_bytes (mapping 5 1 ∷ [])) ++ trailing (2 ^ 62) 1 (replicate 19 1)) none)).answer
          ∷ []);
      paper = 13 ∷ [];
    }
    ∷ []

-- the table
unfoldable pub orders : List Line
orders = table_orders ++ (write_orders ++ (read_orders ++ (claim_orders ++ (group_orders ++ reopen_orders))))

-- LAW: no row differs
pub orders-hold : any (λ (l : Line). not (agree l.ours l.paper)) orders ≡ false
unfolding orders table_orders write_orders read_orders group_orders reopen_orders claim_orders any zeros keep each sum greatest padded put_operation operation_at batch_from batch_in any_too_large out_of_range not_the_states bad_record bad_from condition_one is_empty no_files slots_where empty_slots lowest_empty leads lead_from file_for file_count new_label new_record losing records_with stores_for table_with next_with installed installed_all room_tests position_tests label_bytes five_in label_in out_of_bounds table_ids table_locations alternating lengths_in_range form_from in_form used_in used_entries laid_out worth_it cut_off joining split_from files_of object_bytes stored_at objects_from objects_in bad_checksum objects_of entries_of file_bytes joined settled decide files_in overlapping not_rising latest latest_from table_of reopen_tests mapped_into records_from next_after opened given_up reopen_call in_ranges heap_in_range same_settings bytes_of_slot slot_tests view_in views_in made stores_of file_stores lookup insert insert_all full listed trailer_bytes trailer_tests entries_from entries_in misplaced too_many_ids write_tests written write_call load_call store_call compare_call greater_call with_stored is_dead emptied_from prune_stores pruned is_claimed claim_set claim_cleared claim_call release_call is_candidate group moved_tests delete_tests deletes_of file_tests objects_found deletes_found found group_tests rewrite_group groups_from course_of maintain_call object_tests read_of le_bytes le_value groups_of read_groups number_in shift_bit shifts crc_from crc32 object_sum masked_of digits_in read_call
orders-hold = refl
