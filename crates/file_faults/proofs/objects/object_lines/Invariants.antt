use mathlib.Core.Path.{◌≡◌}
use Prim.Native.Nat.{◌-◌, ◌≤◌}
use lib.ListN.{length}
use Rattle.rules.specs.Base.{each}
use Rattle.rules.specs.Object.{objects_in}
use Rattle.rules.specs.Trailer.{count_in, entries_in}
use Rattle.faults.specs.Faults.{object_faults}
use Rattle.file_faults.specs.Telling.{Going}
use Rattle.file_faults.proofs.Walks.{lines_from}
use Rattle.file_faults.proofs.objects.object_lines.Given as goal

abbrev pub invariant-loop-listing : goal.invariant-loop-listing
invariant-loop-listing l = (l.position ≤ length l.objects) × (l.cursor ≤ count_in l.trailer) × (length l.listing ≡ length l.initial.listing)
    × Going l.count (each (object_faults l.slot (entries_in l.trailer)) (objects_in l.objects)) l.initial.listing l.told (lines_from l.slot (entries_in l.trailer) l.objects l.position) l.listing

abbrev pub decreases-loop-listing : goal.decreases-loop-listing
decreases-loop-listing l = length l.objects - l.position
