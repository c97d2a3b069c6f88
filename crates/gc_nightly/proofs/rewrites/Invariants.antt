use Rattle.as_numbers.specs.StateWords.{state_in}
use Rattle.gc_nightly.proofs.Midway.{Midway}
use Rattle.gc_nightly.proofs.rewrites.Given as goal

abbrev pub invariant-loop-generation : goal.invariant-loop-generation
invariant-loop-generation l = Midway l.settings l.claims l.mark l.count (state_in l.initial.state) l.initial.heap l.initial.table l.initial.places l.initial.pieces l.generation l.moved (state_in l.state) l.heap l.table l.places l.pieces
