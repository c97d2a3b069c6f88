use Prim.Native.Nat.{◌-◌}
use lib.ListN.{length}
use Rattle.file_faults.specs.Walks.{Start, Same}
use Rattle.file_faults.proofs.entries.walk.Given as goal

abbrev pub invariant-loop-at : goal.invariant-loop-at
invariant-loop-at l = Start l.objects l.at × Same l.objects l.position l.at

abbrev pub decreases-loop-at : goal.decreases-loop-at
decreases-loop-at l = length l.objects - l.at
