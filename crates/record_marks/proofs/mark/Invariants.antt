use mathlib.Core.Path.{◌≡◌}
use mathlib.Core.Bool.{◌||◌}
use lib.ListN.{drop}
use Rattle.rules.specs.Base.{any}
use Rattle.rules.specs.Sync.{is_unsynced}
use Rattle.record_marks.proofs.MarkTurns.{upto}
use Rattle.record_marks.proofs.mark.Given as goal

abbrev pub invariant-loop-r : goal.invariant-loop-r
invariant-loop-r l = record {
  marked : l.records ≡ upto l.r-index l.initial.records;
  changed : (l.changed || any is_unsynced (drop l.r-index l.initial.records)) ≡ any is_unsynced l.initial.records;
}
