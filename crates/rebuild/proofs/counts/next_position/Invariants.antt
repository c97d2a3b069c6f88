use mathlib.Core.Path.{◌≡◌}
use Rattle.rebuild.specs.Records.{masked_lsn, size_of}
use lib.ListN.{drop}
use Rattle.rules.specs.Base.{larger, greatest}
use Rattle.rebuild.proofs.counts.next_position.Given as goal

abbrev pub invariant-loop-label : goal.invariant-loop-label
invariant-loop-label l = (larger l.lsn (greatest masked_lsn (drop l.label-index l.fn.slots.labels)) ≡ greatest masked_lsn l.fn.slots.labels)
    × (larger l.size (greatest size_of (drop l.label-index l.fn.slots.labels)) ≡ greatest size_of l.fn.slots.labels)
