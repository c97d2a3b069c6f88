use mathlib.Core.Path.{◌≡◌}
use lib.ListN.{replicate}
use Rattle.rebuild.specs.Records.{masked_lsn}
use Rattle.rebuild.proofs.CountTurns.{map_to}
use Rattle.rebuild.proofs.counts.masked_lsns.Given as goal

abbrev pub invariant-loop-k : goal.invariant-loop-k
invariant-loop-k l = l.lsns ≡ map_to masked_lsn l.k l.slots.labels (replicate 256 0)
