use Rattle.gc_rewrite.specs.Putting.{Put}
use Rattle.gc_rewrite.proofs.put_files.Given as goal

abbrev pub invariant-loop-file : goal.invariant-loop-file
invariant-loop-file l = Put l.group.settings l.group.generation l.places l.links l.words l.initial.after l.initial.heap l.initial.table l.file l.after l.heap l.table
