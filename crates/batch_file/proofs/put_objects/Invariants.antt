use mathlib.Core.Path.{◌≡◌}
use lib.ListN.{length}
use Rattle.rules.specs.Ops.{settled}
use Rattle.batch.specs.Reading.{ops_in}
use Rattle.batch.specs.Walk.{left}
use Rattle.batch.specs.WalkLaws.{Underway}
use Rattle.batch_file.specs.Putting.{Putting, objects_from}
use Rattle.batch_file.specs.Summing.{Summing}
use Rattle.batch_file.proofs.put_objects.Given as goal

abbrev pub invariant-loop-o : goal.invariant-loop-o
invariant-loop-o l = Underway l.batch l.initial.cursor l.order l.cursor
    × (length l.order ≡ 1024)
    × Summing (settled (ops_in l.batch)) (left l.batch l.order l.cursor) l.register l.at
    × Putting objects_from l.left 0 (settled (ops_in l.batch)) l.initial.file l.rest l.at l.at (left l.batch l.order l.cursor) l.file

abbrev pub decreases-loop-o : goal.decreases-loop-o
decreases-loop-o l = length (left l.batch l.order l.cursor)
