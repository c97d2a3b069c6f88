use mathlib.Core.Path.{◌≡◌}
use lib.ListN.{length}
use Rattle.file_map.proofs.RecordTurns.{lives_to}
use Rattle.file_map.proofs.with_lives.Given as goal

abbrev pub invariant-loop-i : goal.invariant-loop-i
invariant-loop-i l = (length l.n.records ≡ 256) × (l.n.records ≡ lives_to l.i l.initial.n.records l.lives)
