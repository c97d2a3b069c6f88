use lib.ListN.{length}
use Rattle.rules.specs.Ops.{objects_of}
use Rattle.batch_file.specs.Putting.{Putting, objects_from}
use Rattle.batch_file.specs.Summing.{Summing}
use Rattle.rules.specs.Layout.{table_ids}
use Rattle.gc_chains.specs.Chains.{chain_ops, Leads}
use Rattle.gc_writer.specs.Walk.{ahead}
use Rattle.gc_writer.specs.Writing.{Free}
use Rattle.gc_writer.proofs.put_objects.Given as goal

abbrev pub invariant-loop-i : goal.invariant-loop-i
invariant-loop-i l = Leads (length (table_ids l.table)) l.places 0 l.i
    × Free l.at (length (objects_of (chain_ops l.first l.initial.heap (table_ids l.table) l.places l.links))) l.heap (table_ids l.table) l.places l.links
    × Summing (chain_ops l.first l.initial.heap (table_ids l.table) l.places l.links) (chain_ops l.i l.heap (table_ids l.table) l.places l.links) l.register l.position
    × Putting objects_from l.left l.at (chain_ops l.first l.initial.heap (table_ids l.table) l.places l.links) l.initial.heap l.rest l.to 0 (chain_ops l.i l.heap (table_ids l.table) l.places l.links) l.heap

abbrev pub decreases-loop-i : goal.decreases-loop-i
decreases-loop-i l = ahead (length (table_ids l.table)) l.i
