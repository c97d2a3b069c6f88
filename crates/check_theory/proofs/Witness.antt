-- A heap with every kind of fault, worked out: the lines and their order.
use Rattle.std.specs.Prelude.{◌≡◌, refl, ◌∷◌, ◌++◌}
use Rattle.std.proofs.Common.{ap}
use Rattle.rules.specs.Base.{List, [], length, replicate, any, zeros, keep, each, padded}
use Rattle.numbers.specs.LittleEndian.{le_bytes, le_value}
use Rattle.numbers.specs.Groups.{groups_of, read_groups, number_in}
use Rattle.numbers.specs.Parts.{front}
use Rattle.checksum.specs.Checksum.{shift_bit, shifts, crc_from, crc32, object_sum}
use Rattle.disk_location.specs.Locations.{masked_of, digits_in}
use Rattle.rules.specs.Refusal.{decide}
use Rattle.rules.specs.Object.{object_bytes, stored_at, objects_from, objects_in, bad_checksum}
use Rattle.rules.specs.Trailer.{listed, trailer_bytes, trailer_tests, entries_from, entries_in, misplaced}
use Rattle.rules.specs.Label.{label_bytes, five_in, label_in, out_of_bounds}
use Rattle.rules.specs.SlotFile.{slot_tests, view_in, views_in}
use Rattle.rules.specs.Layout.{lengths_in_range}
use Rattle.rules.specs.Settings.{in_ranges, heap_in_range}
use Rattle.rules.specs.Condition1.{out_of_range}
use Rattle.rules.specs.Reopen.{files_in, overlapping, not_rising, latest, latest_from, table_of, reopen_tests, given_up, opened, reopen_call}
use Rattle.rules.specs.World.{accepted, refused}
use Rattle.theory.specs.Types.{TableRoom, LabelBytes, Checksum, Overlap, NotRising, CutShort, OtherId}
use Rattle.worked_out.specs.Foreign.{foreign}
use Rattle.worked_out.proofs.Foreign.{foreign-clean}
use Rattle.faults.specs.Faults.{line, walked, object_faults, entry_faults, file_faults, slot_faults, faults_from, closing, faults_of, listing, check_call}
use Rattle.check_theory.specs.Types.{Nowhere, Object, Fault}
use Rattle.check_theory.specs.Accepting.{list_of}
use Rattle.check_theory.proofs.CleanLists.{clean-list}
use Rattle.check_theory.specs.Witness.{faulty}

-- LAW: its lines, and what reopening says of it
pub faulty-list :
    (list_of faulty
    ≡ line 0 LabelBytes Nowhere
    ∷ line 1 Checksum (Object 21)
    ∷ line 1 OtherId (Object 21)
    ∷ line 1 CutShort (Object 41)
    ∷ line 1 OtherId (Object 41)
    ∷ line 2 OtherId (Object 0)
    ∷ line 2 Overlap Nowhere
    ∷ line 3 Overlap Nowhere
    ∷ line 4 NotRising Nowhere
    ∷ line 5 TableRoom Nowhere
    ∷ [])
    × ((reopen_call faulty).answer ≡ refused LabelBytes)
unfolding any zeros keep each padded out_of_range label_bytes five_in label_in out_of_bounds lengths_in_range object_bytes stored_at objects_from objects_in bad_checksum decide files_in overlapping not_rising latest latest_from table_of reopen_tests opened reopen_call given_up in_ranges heap_in_range slot_tests view_in views_in listed trailer_bytes trailer_tests entries_from entries_in misplaced le_bytes le_value groups_of read_groups number_in shift_bit shifts crc_from crc32 object_sum masked_of digits_in walked object_faults entry_faults file_faults slot_faults faults_from closing faults_of
faulty-list = (refl, refl)

-- LAW: a table of four has room for the ids of its sound slots, 3, 5, 7 and 9; 4 is in none of them
pub faulty-fits : list_of faulty ≡ faults_of faulty.settings faulty.heap (replicate 8 0) ++ (line 5 TableRoom Nowhere ∷ [])
unfolding any zeros keep each padded label_bytes five_in label_in out_of_bounds object_bytes stored_at objects_from objects_in bad_checksum decide files_in overlapping not_rising latest latest_from table_of slot_tests view_in views_in listed trailer_bytes trailer_tests entries_from entries_in misplaced le_bytes le_value groups_of read_groups number_in shift_bit shifts crc_from crc32 object_sum masked_of digits_in walked object_faults entry_faults file_faults slot_faults faults_from closing faults_of
faulty-fits = refl

-- LAW: a buffer of eleven words: two lines, and three words as they were; ten faults
pub faulty-checked : check_call faulty.settings faulty.heap faulty.table (replicate 11 99)
    ≡ record { answer = accepted (10 ∷ []); listing = 0 ∷ 8 ∷ 0 ∷ 0 ∷ 1 ∷ 10 ∷ 1 ∷ 21 ∷ 99 ∷ 99 ∷ 99 ∷ [] }
unfolding each padded out_of_range label_bytes lengths_in_range object_bytes decide in_ranges heap_in_range listed trailer_bytes le_bytes groups_of front listing check_call
faulty-checked = ap (λ (xs : List Fault). record { answer = accepted (length xs ∷ []); listing = listing xs (replicate 11 99) }) faulty-list.0

-- LAW: nothing is listed of the heap that no writer of ours made
pub foreign-list : list_of foreign ≡ []
foreign-list = clean-list foreign foreign-clean
