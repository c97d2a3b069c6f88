use Prim.Native.Nat.{◌*◌}
use lib.ListN.{length}
use Rattle.batch_file.specs.Putting.{Putting, entries_from}
use Rattle.rules.specs.Layout.{table_ids}
use Rattle.gc_chains.specs.Chains.{chain_ops, Leads}
use Rattle.gc_writer.specs.Walk.{ahead}
use Rattle.gc_writer.specs.Writing.{Free}
use Rattle.gc_writer.proofs.put_entries.Given as goal

abbrev pub invariant-loop-i : goal.invariant-loop-i
invariant-loop-i l = Leads (length (table_ids l.table)) l.places 0 l.i
    × Free l.at (16 * length (chain_ops l.first l.initial.heap (table_ids l.table) l.places l.links)) l.heap (table_ids l.table) l.places l.links
    × Putting entries_from l.left l.at (chain_ops l.first l.initial.heap (table_ids l.table) l.places l.links) l.initial.heap l.rest l.to l.position (chain_ops l.i l.heap (table_ids l.table) l.places l.links) l.heap

abbrev pub decreases-loop-i : goal.decreases-loop-i
decreases-loop-i l = ahead (length (table_ids l.table)) l.i
