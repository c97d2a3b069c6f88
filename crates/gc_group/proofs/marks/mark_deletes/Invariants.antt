use Rattle.std.proofs.Common.{◌≡◌, drop}
use Rattle.rules.specs.Base.{each}
use Rattle.rules.specs.Trailer.{entries_in}
use Rattle.rules.specs.Layout.{used_entries}
use Rattle.gc_group.specs.Marks.{delete_id, marked}
use Rattle.gc_group.proofs.marks.mark_deletes.Given as goal

abbrev pub invariant-loop-k : goal.invariant-loop-k
invariant-loop-k l =
    marked l.mark (each (delete_id l.lsn (used_entries l.table)) (drop l.k (entries_in l.trailer))) (used_entries l.table) l.marks
    ≡ marked l.mark (each (delete_id l.lsn (used_entries l.table)) (entries_in l.trailer)) (used_entries l.table) l.initial.marks
