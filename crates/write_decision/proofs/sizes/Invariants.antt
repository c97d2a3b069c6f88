use mathlib.Core.Path.{◌≡◌}
use Prim.Native.Nat.{◌+◌, ◌*◌, ◌≤◌}
use lib.ListN.{length}
use Rattle.rules.specs.Layout.{used_entries}
use Rattle.rules.specs.Ops.{objects_of, settled}
use Rattle.batch.specs.Reading.{ops_in}
use Rattle.batch.specs.Walk.{left}
use Rattle.batch.specs.WalkLaws.{Underway}
use Rattle.table_merge.specs.NewIds.{new_ids}
use Rattle.write_decision.specs.NewIds.{ids_of}
use Rattle.write_decision.proofs.sizes.Given as goal

abbrev pub invariant-loop-o : goal.invariant-loop-o
invariant-loop-o l = Underway l.batch l.initial.cursor l.order l.cursor
    × (length l.order ≡ 1024)
    × (l.count + length (left l.batch l.order l.cursor) ≡ length (settled (ops_in l.batch)))
    × (l.total + length (objects_of (left l.batch l.order l.cursor)) ≡ length (objects_of (settled (ops_in l.batch))))
    × (l.new + new_ids (used_entries l.table) (ids_of (left l.batch l.order l.cursor)) ≡ new_ids (used_entries l.table) (ids_of (settled (ops_in l.batch))))
    × (l.new ≤ l.count)
    × (76 + l.total + 16 * l.count ≤ l.slot_bytes)

abbrev pub decreases-loop-o : goal.decreases-loop-o
decreases-loop-o l = length (left l.batch l.order l.cursor)
