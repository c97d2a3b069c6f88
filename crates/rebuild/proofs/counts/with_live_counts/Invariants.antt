use mathlib.Core.Path.{◌≡◌}
use Rattle.rules.specs.Layout.{used_entries}
use Rattle.rebuild.specs.Records.{counted}
use Rattle.rebuild.proofs.CountTurns.{map_to}
use lib.ListN.{length}
use Rattle.rebuild.proofs.counts.with_live_counts.Given as goal

abbrev pub invariant-loop-k : goal.invariant-loop-k
invariant-loop-k l = (length l.initial.m.records ≡ 256) × (length l.slots.labels ≡ 256) × (l.m.records ≡ map_to (counted (used_entries l.table)) l.k l.slots.labels l.initial.m.records)
