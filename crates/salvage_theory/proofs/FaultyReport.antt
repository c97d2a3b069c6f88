-- The report of a heap with every kind of fault, worked out.
use Rattle.std.specs.Prelude.{◌≡◌, refl, ◌∷◌}
use Rattle.std.proofs.Common.{ap, ◌∙◌}
use Rattle.rules.specs.Base.{List, [], replicate, any, zeros, keep, each, padded}
use Rattle.numbers.specs.LittleEndian.{le_bytes, le_value}
use Rattle.numbers.specs.Groups.{groups_of, read_groups, number_in}
use Rattle.numbers.specs.Parts.{front}
use Rattle.checksum.specs.Checksum.{shift_bit, shifts, crc_from, crc32, object_sum}
use Rattle.disk_location.specs.Locations.{masked_of, digits_in}
use Rattle.rules.specs.Refusal.{decide}
use Rattle.rules.specs.Object.{object_bytes, stored_at, objects_from, objects_in, bad_checksum}
use Rattle.rules.specs.Trailer.{listed, trailer_bytes, trailer_tests, entries_from, entries_in, misplaced}
use Rattle.rules.specs.Label.{label_bytes, five_in, label_in, out_of_bounds}
use Rattle.rules.specs.Stores.{made}
use Rattle.rules.specs.SlotFile.{slot_tests, view_in, views_in}
use Rattle.rules.specs.Layout.{lengths_in_range}
use Rattle.rules.specs.Settings.{in_ranges, heap_in_range}
use Rattle.rules.specs.Condition1.{out_of_range}
use Rattle.rules.specs.Reopen.{files_in, overlapping, not_rising, latest, latest_from, table_of, reopen_tests, given_up, opened, reopen_call}
use Rattle.rules.specs.World.{accepted}
use Rattle.theory.specs.Types.{LabelBytes, Overlap, NotRising, OtherId}
use Rattle.faults.specs.Faults.{line, walked, object_faults, entry_faults, file_faults, slot_faults, faults_from, closing, faults_of}
use Rattle.check_theory.specs.Types.{Object}
use Rattle.check_theory.specs.Accepting.{list_of}
use Rattle.check_theory.specs.Witness.{faulty}
use Rattle.losses.specs.Salvage.{loss, first_kind, the_rest, placed, in_order, given_up_behind, second_kind, losses_in, report_of, emptying_of, salvage_call}
use Rattle.salvage_theory.specs.Types.{Loss}
use Rattle.salvage_theory.specs.Cut.{gave_up}
use Rattle.salvage_theory.specs.Reopens.{rescued}
use Rattle.salvage_theory.specs.Witness.{sound}

-- LAW: of the heap with every kind of fault: 8 and 15 ascending by slot; then of 10..30, 10..10 and 30..91 all but the first, the lower slot first
pub faulty-report : report_of faulty.settings faulty.heap ≡ loss 0 LabelBytes ∷ loss 4 NotRising ∷ loss 3 Overlap ∷ loss 1 Overlap ∷ []
unfolding any zeros keep each padded label_bytes five_in label_in out_of_bounds object_bytes stored_at objects_from objects_in bad_checksum decide files_in overlapping not_rising latest latest_from table_of slot_tests view_in views_in listed trailer_bytes trailer_tests entries_from entries_in misplaced le_bytes le_value groups_of read_groups number_in shift_bit shifts crc_from crc32 object_sum masked_of digits_in first_kind the_rest placed in_order given_up_behind second_kind losses_in
faulty-report = refl
