use Rattle.rules.specs.Layout.{table_ids}
use Rattle.gc_split.specs.Tally.{tally}
use Rattle.gc_files.proofs.EntryTurns.{Along}
use Prim.Native.Nat.{◌≤◌}
use lib.ListN.{length}
use Rattle.gc_files.proofs.split.split.Given as goal

abbrev pub invariant-loop-i : goal.invariant-loop-i
invariant-loop-i l = (l.i-end ≤ length (table_ids l.table)) × Along l.settings.target_file_size l.settings.slot_bytes l.heap (table_ids l.table) l.places l.initial.pieces (tally l.initial.shards l.initial.cuts l.initial.t) (tally l.shards l.cuts l.t) l.pieces l.i
