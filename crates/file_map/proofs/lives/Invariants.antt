use Rattle.rules.specs.declared.Record.{Record}
use Rattle.file_map.proofs.RecordTurns.{Copying}
use Rattle.file_map.proofs.lives.Given as goal

abbrev pub invariant-loop-i : goal.invariant-loop-i
invariant-loop-i l = Copying (λ (r : Record). r.live) l.fn.m.records l.initial.lives l.i l.lives
