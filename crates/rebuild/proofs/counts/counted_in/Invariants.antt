use mathlib.Core.Path.{◌≡◌}
use lib.ListN.{length}
use Rattle.rules.specs.Layout.{used_entries}
use Rattle.rebuild.specs.Counting.{lives_to}
use Rattle.rebuild.proofs.counts.counted_in.Given as goal

abbrev pub invariant-loop-i : goal.invariant-loop-i
invariant-loop-i l = (l.i-end ≡ length (used_entries l.table)) × (l.lives ≡ lives_to (used_entries l.table) l.i l.slots.labels) × (length l.slots.labels ≡ 256)
