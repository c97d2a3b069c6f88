use lib.ListN.{drop, length}
use Rattle.rules.specs.Layout.{table_ids, table_locations, used_in, used_entries}
use Prim.Native.Nat.{◌+◌}
use mathlib.Core.Path.{◌≡◌}
use Rattle.bench.proofs.show.used.Given as goal

abbrev pub invariant-loop-k : goal.invariant-loop-k
invariant-loop-k l = l.k + length (used_in (drop l.k (table_ids l.table)) (drop l.k (table_locations l.table))) ≡ length (used_entries l.table)
