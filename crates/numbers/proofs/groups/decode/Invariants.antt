use Rattle.numbers.proofs.GroupReading.{Reading}
use Rattle.numbers.proofs.groups.decode.Given as goal

abbrev pub invariant-loop-i : goal.invariant-loop-i
invariant-loop-i l = Reading l.s l.at l.v l.shift l.i
