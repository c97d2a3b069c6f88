use Prim.Native.Nat.{◌≤◌}
use lib.ListN.{length}
use Rattle.rules.specs.Layout.{table_ids, used_entries}
use Rattle.gc_chains.specs.Linking.{Linking}
use Rattle.gc_chains.proofs.link.Given as goal

abbrev pub invariant-loop-i : goal.invariant-loop-i
invariant-loop-i l = (l.i ≤ length (used_entries l.table)) × Linking (table_ids l.table) l.places l.initial.links l.initial.words l.i l.links l.words
