use mathlib.Core.Path.{◌≡◌}
use lib.ListN.{length}
use Rattle.rules.specs.Ops.{settled}
use Rattle.batch.specs.Reading.{ops_in}
use Rattle.batch.specs.Walk.{left}
use Rattle.batch_file.specs.Putting.{Putting, entries_from}
use Rattle.batch_file.proofs.put_entries.Given as goal

abbrev pub invariant-loop-o : goal.invariant-loop-o
invariant-loop-o l = (length l.order ≡ 1024) × Putting entries_from l.left l.at (settled (ops_in l.batch)) l.initial.file l.rest l.place l.position (left l.batch l.order l.cursor) l.file

abbrev pub decreases-loop-o : goal.decreases-loop-o
decreases-loop-o l = length (left l.batch l.order l.cursor)
