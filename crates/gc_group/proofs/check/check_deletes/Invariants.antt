use Rattle.std.proofs.Common.{◌≡◌, drop}
use Rattle.rules.specs.Base.{each}
use Rattle.rules.specs.Refusal.{decide}
use Rattle.rules.specs.Trailer.{entries_in}
use Rattle.rules.specs.Layout.{used_entries}
use Rattle.gc_group.specs.Checks.{entry_tests}
use Rattle.gc_group.proofs.check.check_deletes.Given as goal

abbrev pub invariant-loop-k : goal.invariant-loop-k
invariant-loop-k l =
    decide (each (entry_tests l.lsn (used_entries l.table)) (drop l.k (entries_in l.trailer))) ≡ decide (each (entry_tests l.lsn (used_entries l.table)) (entries_in l.trailer))
