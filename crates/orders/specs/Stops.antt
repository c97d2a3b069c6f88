-- "A refusal stops the call, keeps finished groups .. nothing is pruned. Success prunes": one world, worked out both ways.
use Rattle.std.specs.Prelude.{◌≡◌, refl, ◌∷◌, ◌++◌, ◌+◌}
use Rattle.rules.specs.Base.{List, [], ℕ, length, replicate, any, zeros, keep, each, sum, greatest, padded}
use Rattle.numbers.specs.LittleEndian.{le_bytes, le_value}
use Rattle.numbers.specs.Groups.{groups_of}
use Rattle.checksum.specs.Checksum.{shift_bit, shifts, crc_from, crc32, object_sum}
use Rattle.disk_location.specs.Locations.{masked_of, digits_in}
use Rattle.rules.specs.Refusal.{decide}
use Rattle.rules.specs.Settings.{in_ranges, heap_in_range, same_settings}
use Rattle.rules.specs.Object.{object_bytes, stored_at, objects_from, objects_in, bad_checksum}
use Rattle.rules.specs.Trailer.{listed, trailer_bytes, trailer_tests, entries_from, entries_in}
use Rattle.rules.specs.Ops.{objects_of, entries_of, file_bytes, joined, settled}
use Rattle.rules.specs.Label.{label_bytes, out_of_bounds}
use Rattle.rules.specs.SlotFile.{bytes_of_slot}
use Rattle.rules.specs.Table.{lookup, insert, insert_all}
use Rattle.rules.specs.Layout.{table_ids, table_locations, alternating, lengths_in_range, form_from, in_form, used_in, used_entries, laid_out}
use Rattle.rules.specs.FileMap.{recorded, empty_record, is_empty, no_files, slots_where, empty_slots, lowest_empty, leads, lead_from, file_for, file_count}
use Rattle.rules.specs.Condition1.{out_of_range, not_the_states, bad_record, bad_from, condition_one}
use Rattle.rules.specs.Stores.{made, stores_of, file_stores}
use Rattle.rules.specs.Install.{new_label, new_record, losing, records_with, stores_for, table_with, next_with, installed, installed_all, room_tests, position_tests}
use Rattle.rules.specs.Claims.{is_claimed}
use Rattle.rules.specs.Prune.{is_dead, emptied_from, prune_stores, pruned}
use Rattle.rules.specs.Maintenance.{worth_it, cut_off, joining, split_from, files_of, is_candidate, group, moved_tests, delete_tests, deletes_of, file_tests, objects_found, deletes_found, found, group_tests, rewrite_group, groups_from, course_of, maintain_call}
use Rattle.theory.specs.Types.{Label}
use Rattle.rules.specs.World.{World, After}
use Rattle.rules.specs.Lines.{told, mapping}
use Rattle.orders.specs.Worlds.{two, label_of, slot, holding, seen_at}

-- five slots: object 1 in a file of generation 0; object 2 in one of generation 1, with a trailer; two empty ones, and between them a file with nothing live
abbrev pub groups : List ℕ → World
groups trailer =
    let good = trailer_bytes (mapping 1 0 ∷ []) in
    let gone = trailer_bytes (mapping 3 1 ∷ []) in
    let a = label_of 1 1 (object_bytes 1 []) good in
    let b : Label = record { lsn = 100; trailer_offset = 20; file_size = 20 + length trailer; present_objects = 1; generation = 1 } in
    let d = label_of 50 1 [] gone in
    holding (recorded a 1 1 ∷ recorded b 1 1 ∷ empty_record ∷ recorded d 0 1 ∷ []) 200
    (slot a (object_bytes 1 [] ++ good) ++ (slot b (object_bytes 2 [] ++ trailer) ++ (replicate 128 0 ++ (slot d gone ++ replicate 128 0))))
    (two 1 2 2 200)

-- the answer, the next position, and the five slots
abbrev pub left : After → List ℕ
left a = told a.answer ++ (a.world.state.next_position ∷ each (seen_at a.world) (0 ∷ 1 ∷ 2 ∷ 3 ∷ 4 ∷ []))

-- LAW: generation 1 is finished: object 1 is in slot 2, of generation 1, without the batch bit; generation 2 is refused with 9; slots 0 and 3, with nothing
-- live, stand
pub stopped-stands :
    left (maintain_call (groups (replicate 19 0)))
    ≡ 9 ∷ 2 ∷ 1 ∷ 221
    ∷ 1 ∷ 0 ∷ 0 ∷ 1
    ∷ 100 ∷ 1 ∷ 1 ∷ 100
    ∷ 200 ∷ 1 ∷ 1 ∷ 0xc8
    ∷ 50 ∷ 0 ∷ 0 ∷ 50
    ∷ 0 ∷ 0 ∷ 0 ∷ 0
    ∷ []
unfolding any zeros keep each sum greatest padded out_of_range not_the_states bad_record bad_from condition_one is_empty no_files slots_where empty_slots lowest_empty leads lead_from file_for file_count new_label new_record losing records_with stores_for table_with next_with installed installed_all room_tests position_tests label_bytes out_of_bounds table_ids table_locations alternating lengths_in_range form_from in_form used_in used_entries laid_out worth_it cut_off joining split_from files_of object_bytes stored_at objects_from objects_in bad_checksum objects_of entries_of file_bytes joined settled decide in_ranges heap_in_range same_settings bytes_of_slot made stores_of file_stores lookup insert insert_all listed trailer_bytes trailer_tests entries_from entries_in is_dead emptied_from prune_stores pruned is_claimed is_candidate group moved_tests delete_tests deletes_of file_tests objects_found deletes_found found group_tests rewrite_group groups_from course_of maintain_call le_bytes le_value groups_of shift_bit shifts crc_from crc32 object_sum masked_of digits_in
stopped-stands = refl

-- LAW: with that trailer as it should be both ids are moved, each to a file of its generation, and what has nothing live is pruned
pub finished-pruned :
    left (maintain_call (groups (trailer_bytes (mapping 2 0 ∷ []))))
    ≡ 0 ∷ 2 ∷ 242
    ∷ 0 ∷ 0 ∷ 0 ∷ 0
    ∷ 0 ∷ 0 ∷ 0 ∷ 0
    ∷ 200 ∷ 1 ∷ 1 ∷ 0xc8
    ∷ 0 ∷ 0 ∷ 0 ∷ 0
    ∷ 221 ∷ 2 ∷ 1 ∷ 0xdd
    ∷ []
unfolding any zeros keep each sum greatest padded out_of_range not_the_states bad_record bad_from condition_one is_empty no_files slots_where empty_slots lowest_empty leads lead_from file_for file_count new_label new_record losing records_with stores_for table_with next_with installed installed_all room_tests position_tests label_bytes out_of_bounds table_ids table_locations alternating lengths_in_range form_from in_form used_in used_entries laid_out worth_it cut_off joining split_from files_of object_bytes stored_at objects_from objects_in bad_checksum objects_of entries_of file_bytes joined settled decide in_ranges heap_in_range same_settings bytes_of_slot made stores_of file_stores lookup insert insert_all listed trailer_bytes trailer_tests entries_from entries_in is_dead emptied_from prune_stores pruned is_claimed is_candidate group moved_tests delete_tests deletes_of file_tests objects_found deletes_found found group_tests rewrite_group groups_from course_of maintain_call le_bytes le_value groups_of shift_bit shifts crc_from crc32 object_sum masked_of digits_in
finished-pruned = refl
