use Rattle.numbers.specs.Parts.{front}
use Rattle.gc_split.specs.Tally.{rests_from}
use Rattle.gc_split.proofs.RestTurns.{Placing}
use Rattle.gc_split.proofs.rests.Given as goal

abbrev pub invariant-loop-n : goal.invariant-loop-n
invariant-loop-n l = Placing (front (rests_from 0 l.counts l.rounds) l.initial.rests) l.initial.rests l.counts l.rounds l.rests l.left l.n
