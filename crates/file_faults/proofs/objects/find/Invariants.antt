use mathlib.Core.Path.{◌≡◌}
use lib.ListN.{take, drop}
use Rattle.rules.specs.Base.{any}
use Rattle.rules.specs.Trailer.{entries_in}
use Rattle.file_faults.specs.Walks.{entered_as}
use Rattle.file_faults.proofs.objects.find.Given as goal

abbrev pub invariant-loop-k : goal.invariant-loop-k
invariant-loop-k l = any (entered_as l.id l.position) (drop l.k (take l.to (entries_in l.trailer))) ≡ any (entered_as l.id l.position) (drop l.from (take l.to (entries_in l.trailer)))
