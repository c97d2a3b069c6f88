use Rattle.std.proofs.Common.{◌≡◌, length, drop}
use Rattle.rules.specs.declared.Record.{Record}
use Rattle.rules.specs.Refusal.{decide}
use Rattle.rules.specs.Layout.{used_entries}
use Rattle.file_map.proofs.RecordTurns.{copied}
use Rattle.gc_candidates.specs.Plan.{planned, planned_from}
use Rattle.gc_group.specs.Source.{source}
use Rattle.gc_group.specs.Checks.{group_checks}
use Rattle.gc_group.specs.Marks.{marks_from, marks_of}
use Rattle.gc_group.proofs.marks.mark_group.Given as goal

abbrev pub invariant-loop-i : goal.invariant-loop-i
invariant-loop-i l = let from = source l.group.settings.slot_bytes l.heap l.r-items (used_entries l.table) in record {
  same_answer : decide (group_checks l.group.settings.max_object_size from (planned_from l.i (drop l.i l.plan) l.group.generation)) ≡ decide (group_checks l.group.settings.max_object_size from (planned l.plan l.group.generation));
  same_marks : marks_from from (planned_from l.i (drop l.i l.plan) l.group.generation) l.marks ≡ marks_of from (length l.initial.marks) (planned l.plan l.group.generation);
  lsns_read : l.lsns ≡ copied (λ (r : Record). r.label.lsn) l.r-items l.i l.initial.lsns;
}
