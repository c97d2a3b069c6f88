-- Salvages worked out: the report and its order, the slots after it, and what it does not promise.
use Rattle.std.specs.Prelude.{◌≡◌, refl, ◌∷◌}
use Rattle.std.proofs.Common.{ap, ◌∙◌}
use Rattle.rules.specs.Base.{List, [], replicate, any, zeros, keep, each, padded}
use Rattle.numbers.specs.LittleEndian.{le_bytes, le_value}
use Rattle.numbers.specs.Groups.{groups_of, read_groups, number_in}
use Rattle.numbers.specs.Parts.{front}
use Rattle.checksum.specs.Checksum.{shift_bit, shifts, crc_from, crc32, object_sum}
use Rattle.disk_location.specs.Locations.{masked_of, digits_in}
use Rattle.rules.specs.Refusal.{decide}
use Rattle.rules.specs.Object.{object_bytes, stored_at, objects_from, objects_in, bad_checksum}
use Rattle.rules.specs.Trailer.{listed, trailer_bytes, trailer_tests, entries_from, entries_in, misplaced}
use Rattle.rules.specs.Label.{label_bytes, five_in, label_in, out_of_bounds}
use Rattle.rules.specs.Stores.{made}
use Rattle.rules.specs.SlotFile.{slot_tests, view_in, views_in}
use Rattle.rules.specs.Layout.{lengths_in_range}
use Rattle.rules.specs.Settings.{in_ranges, heap_in_range}
use Rattle.rules.specs.Condition1.{out_of_range}
use Rattle.rules.specs.Reopen.{files_in, overlapping, not_rising, latest, latest_from, table_of, reopen_tests, given_up, opened, reopen_call}
use Rattle.rules.specs.World.{accepted}
use Rattle.theory.specs.Types.{LabelBytes, Overlap, NotRising, OtherId}
use Rattle.faults.specs.Faults.{line, walked, object_faults, entry_faults, file_faults, slot_faults, faults_from, closing, faults_of}
use Rattle.check_theory.specs.Types.{Object}
use Rattle.check_theory.specs.Accepting.{list_of}
use Rattle.check_theory.specs.Witness.{faulty}
use Rattle.losses.specs.Salvage.{loss, first_kind, the_rest, placed, in_order, given_up_behind, second_kind, losses_in, report_of, emptying_of, salvage_call}
use Rattle.salvage_theory.specs.Types.{Loss}
use Rattle.salvage_theory.specs.Cut.{gave_up}
use Rattle.salvage_theory.proofs.Cut.{salvage-reports}
use Rattle.salvage_theory.proofs.FaultyReport.{faulty-report}
use Rattle.salvage_theory.specs.Reopens.{rescued}
use Rattle.salvage_theory.specs.Witness.{sound}

-- LAW: slot 0 with masked 30..50 and slot 1 with 10..30: slot 0 is given up, the later by its masked lsn, not by its slot
pub later-start-given-up : second_kind (in_order (sound 0 30 20 ∷ sound 1 10 20 ∷ [])) ≡ loss 0 Overlap ∷ []
unfolding placed in_order given_up_behind second_kind masked_of
later-start-given-up = refl

-- LAW: with 31..51 it stays
pub one-above-kept : second_kind (in_order (sound 0 31 20 ∷ sound 1 10 20 ∷ [])) ≡ []
unfolding placed in_order given_up_behind second_kind masked_of
one-above-kept = refl

-- LAW: what meets only a file that is given up itself is kept: 10..30, 20..50, 40..60
pub given-up-strikes-none : second_kind (in_order (sound 0 10 20 ∷ sound 1 20 30 ∷ sound 2 40 20 ∷ [])) ≡ loss 1 Overlap ∷ []
unfolding placed in_order given_up_behind second_kind masked_of
given-up-strikes-none = refl

-- LAW: the call, with ten words lent: four lines, and two words as they were
pub faulty-salvaged : salvage_call faulty.settings faulty.heap faulty.table (replicate 10 99)
    ≡ record {
      answer = accepted (4 ∷ []);
      report = 0 ∷ 8 ∷ 4 ∷ 15 ∷ 3 ∷ 14 ∷ 1 ∷ 14 ∷ 99 ∷ 99 ∷ [];
      heap = made (emptying_of faulty.settings (loss 0 LabelBytes ∷ loss 4 NotRising ∷ loss 3 Overlap ∷ loss 1 Overlap ∷ [])) faulty.heap;
    }
unfolding each padded out_of_range label_bytes lengths_in_range object_bytes decide in_ranges heap_in_range listed trailer_bytes le_bytes groups_of front
faulty-salvaged =
    salvage-reports faulty.settings faulty.heap faulty.table (replicate 10 99) refl
    ∙ ap (λ (xs : List Loss). gave_up xs (replicate 10 99) (made (emptying_of faulty.settings xs) faulty.heap)) faulty-report

-- LAW: a reopening refused it with 8; after the salvage it accepts, and the checker still lists that 9 is stored and entered as a delete
pub faulty-rescued : ((reopen_call (rescued faulty [])).answer ≡ accepted []) × (list_of (rescued faulty []) ≡ line 2 OtherId (Object 0) ∷ [])
unfolding any zeros keep each padded label_bytes five_in label_in out_of_bounds object_bytes stored_at objects_from objects_in bad_checksum decide files_in overlapping not_rising latest latest_from table_of slot_tests view_in views_in listed trailer_bytes trailer_tests entries_from entries_in misplaced le_bytes le_value groups_of read_groups number_in shift_bit shifts crc_from crc32 object_sum masked_of digits_in out_of_range lengths_in_range in_ranges heap_in_range reopen_tests opened reopen_call given_up made first_kind the_rest placed in_order given_up_behind second_kind losses_in emptying_of salvage_call front walked object_faults entry_faults file_faults slot_faults faults_from closing faults_of
faulty-rescued = (refl, refl)
