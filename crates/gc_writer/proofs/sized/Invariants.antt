use mathlib.Core.Path.{◌≡◌}
use Prim.Native.Nat.{◌+◌, ◌*◌, ◌≤◌}
use lib.ListN.{length}
use Rattle.rules.specs.Ops.{objects_of}
use Rattle.rules.specs.Layout.{table_ids}
use Rattle.gc_chains.specs.Chains.{chain_ops, Leads}
use Rattle.gc_writer.specs.Walk.{ahead}
use Rattle.gc_writer.proofs.sized.Given as goal

abbrev pub invariant-loop-i : goal.invariant-loop-i
invariant-loop-i l = Leads (length (table_ids l.table)) l.places 0 l.i
    × (l.count + length (chain_ops l.i l.heap (table_ids l.table) l.places l.links) ≡ length (chain_ops l.first l.heap (table_ids l.table) l.places l.links))
    × (l.total + length (objects_of (chain_ops l.i l.heap (table_ids l.table) l.places l.links)) ≡ length (objects_of (chain_ops l.first l.heap (table_ids l.table) l.places l.links)))
    × (l.total ≤ 1048596 * l.count)

abbrev pub decreases-loop-i : goal.decreases-loop-i
decreases-loop-i l = ahead (length (table_ids l.table)) l.i
