use Prim.Native.Nat.{◌≤◌, ◌-◌}
use mathlib.Core.Path.{◌≡◌}
use lib.ListN.{length}
use Rattle.rules.specs.Base.{each}
use Rattle.rules.specs.Object.{objects_in}
use Rattle.rules.specs.Refusal.{decide}
use Rattle.rules.specs.Maintenance.{moved_tests}
use Rattle.rules.specs.Layout.{used_entries}
use Rattle.stored_object.specs.Objects.{objects_at}
use Rattle.gc_group.specs.Marks.{object_id, marked}
use Rattle.gc_group.proofs.marks.mark_objects.Given as goal

abbrev pub invariant-loop-h : goal.invariant-loop-h
invariant-loop-h l = (l.position ≤ length l.objects) × (length l.marks ≡ length l.initial.marks)
    × (decide (each (moved_tests l.limit (used_entries l.table)) (objects_at l.objects l.position)) ≡ decide (each (moved_tests l.limit (used_entries l.table)) (objects_in l.objects)))
    × (marked l.mark (each (object_id l.lsn (used_entries l.table)) (objects_at l.objects l.position)) (used_entries l.table) l.marks
    ≡ marked l.mark (each (object_id l.lsn (used_entries l.table)) (objects_in l.objects)) (used_entries l.table) l.initial.marks)

abbrev pub decreases-loop-h : goal.decreases-loop-h
decreases-loop-h l = length l.objects - l.position
