use Prim.Native.Nat.{ℕ, suc, ◌+◌, ◌<◌}
use mathlib.Core.Path.{◌≡◌, sym, ap, ap₂, ◌∙◌, subst}
use native.Mathlib.Omega.{arith}
use borrow.Author.Rules.{rules}
use lib.ListN.{length, drop, set, length-replicate, replicate}
use mathlib.Core.List.{List}
use native.Mathlib.Numerals.{add-one}
use Rattle.rules.specs.declared.Label.{Label}
use Rattle.rules.specs.Types.{Answer}
use Rattle.rules.specs.declared.Record.{Record}
use Rattle.rules.specs.Refusal.{decide}
use Rattle.rules.specs.FileMap.{record_at}
use Rattle.rules.specs.SlotFile.{bytes_of_slot}
use Rattle.rules.proofs.SlotLaws.{slot-length}
use Rattle.rules.specs.Maintenance.{file_tests}
use Rattle.rules.specs.Layout.{used_entries}
use Rattle.file_map.proofs.RecordTurns.{mapped-length, copied-start, copied_next, copied-end}
use Rattle.gc_candidates.specs.Plan.{planned, planned_from, planned-here, planned-next, planned-start, planned-end}
use Rattle.gc_group.specs.Source.{source, Lies}
use Rattle.gc_group.specs.Checks.{group_checks}
use Rattle.gc_group.proofs.Checks.{group-refused, group-on, group-none}
use Rattle.gc_group.specs.Marks.{found_file, ids_of, marked, marks_from, marks_of}
use Rattle.gc_group.proofs.MarkLaws.{marks-next, marks-end, marks-start}
use Rattle.gc_group.proofs.marks.mark_group.Goals as goal
use Rattle.std.proofs.lemmas.Result.{err_from_is_err_and}
use Rattle.gc_group.proofs.marks.mark_group.Goals.{then-plan-i+in_ok-mark_file, else-plan-i}

pub loop-i-init : goal.loop-i-init
loop-i-init c =
    let a = c.args in
    let from = source a.group.settings.slot_bytes a.heap.now a.m.records (used_entries a.table.now) in
    let zeros : c.fill.new.self ≡ replicate (length a.marks.now) 0 = c.fill.ensures.after (λ y e. e) in
    let first = planned-start a.plan.now a.group.generation in record {
      same_answer = ap (λ (ks : List ℕ). decide (group_checks a.group.settings.max_object_size from ks)) (sym first);
      same_marks = ap₂ (marks_from from) (sym first) zeros ∙ marks-start from (length a.marks.now) (planned a.plan.now a.group.generation)
          ∙ ap (λ (n : ℕ). marks_of from n (planned a.plan.now a.group.generation)) (sym (ap length zeros ∙ length-replicate {A = ℕ} (length a.marks.now) 0));
      lsns_read = copied-start (λ (r : Record). r.label.lsn) a.m.records a.lsns.now;
    }

pub mark_file-requires-clause-lies : goal.mark_file-requires-clause-lies
mark_file-requires-clause-lies c =
    let a = c.args in
    let i = c.loop-i.i in
    let whole : length c.slot_at-slot.result.now ≡ a.group.settings.slot_bytes =
    ap length c.slot_at-slot.ensures ∙ slot-length a.group.settings.slot_bytes a.heap.now i (c.requires.ready.standing i c.if-plan-i.true) in
    subst (λ (n : ℕ). Lies n (record_at a.m.records i).label) (sym whole) (c.requires.ready.files i)

-- what is decided of the file in a slot
checked : (limit size i : ℕ) (t heap : List ℕ) (l : Label) (slot : List ℕ) (answer : Answer) → slot ≡ bytes_of_slot size heap i
    → answer ≡ decide (file_tests limit (used_entries t) l slot)
    → decide (file_tests limit (used_entries t) l (bytes_of_slot size heap i)) ≡ answer
checked limit size i t heap l slot answer is decided = ap (λ (bytes : List ℕ). decide (file_tests limit (used_entries t) l bytes)) (sym is) ∙ sym decided

pub returns-in_err-mark_file-clause-answers : goal.returns-in_err-mark_file-clause-answers
returns-in_err-mark_file-clause-answers c =
    let a = c.args in
    let from = source a.group.settings.slot_bytes a.heap.now a.m.records (used_entries a.table.now) in
    let i = c.loop-i.i in
    let p = err_from_is_err_and c.from_residual.result c.from_residual.ensures.1 in
    rw (p.1, p.2) (sym (
    ap (λ (ks : List ℕ). decide (group_checks a.group.settings.max_object_size from ks)) (planned-here a.plan.now a.group.generation i (omega (arith, c.requires.ready.slots)) c.if-plan-i.true)
    ∙ group-refused a.group.settings.max_object_size from i _ _ (checked a.group.settings.max_object_size a.group.settings.slot_bytes i a.table.now a.heap.now (record_at a.m.records i).label _ _ c.slot_at-slot.ensures c.mark_file.ensures.answers ∙ c.in_err-mark_file.was))
    ∙ c.loop-i.invariant.same_answer)

pub loop-i-preserved : goal.loop-i-preserved
loop-i-preserved c =
    let a = c.args in
    let i = c.loop-i.i in
    let table = used_entries a.table.now in
    let from = source a.group.settings.slot_bytes a.heap.now a.m.records table in
    let rs = a.m.records in
    let l = (record_at rs i).label in
    let rest = planned_from (i + 1) (drop (i + 1) a.plan.now) a.group.generation in
    let all : length rs ≡ 256 = search (mapped-length, rules) in
    let inside : i < length a.plan.now = omega (arith, c.requires.ready.slots) in
    let f : List ℕ → Answer = λ ks. decide (group_checks a.group.settings.max_object_size from ks) in
    let read =
    ap (λ (ns : List ℕ). set ns i l.lsn) c.loop-i.invariant.lsns_read ∙ copied_next (λ (q : Record). q.label.lsn) rs i a.lsns.now (omega arith) (omega (arith, c.requires.table_in_bounds.1)) in
    elim c.if-plan-i.branch [
      | then-plan-i+in_ok-mark_file w ↦
          let here = planned-here a.plan.now a.group.generation i inside w.if-plan-i.true in
          let ids = ids_of (found_file table l (bytes_of_slot a.group.settings.slot_bytes a.heap.now i)) in
          let after : c.if-plan-i.marks ≡ marked (suc i) ids table c.loop-i.marks =
          w.marks-is ∙ w.mark_file.ensures.marks w.in_ok-mark_file.was ∙ ap₂ (λ (m : ℕ) (bytes : List ℕ). marked m (ids_of (found_file table l bytes)) table c.loop-i.marks) (add-one i) w.slot_at-slot.ensures in record {
            same_answer = sym (
                ap f here
                ∙ group-on a.group.settings.max_object_size from i _ (checked a.group.settings.max_object_size a.group.settings.slot_bytes i a.table.now a.heap.now l _ _ w.slot_at-slot.ensures w.mark_file.ensures.answers ∙ w.in_ok-mark_file.was))
                ∙ c.loop-i.invariant.same_answer;
            same_marks = ap (marks_from from rest) after ∙ sym (marks-next from i rest c.loop-i.marks) ∙ sym (ap (λ (ks : List ℕ). marks_from from ks c.loop-i.marks) here) ∙ c.loop-i.invariant.same_marks;
            lsns_read = read;
          }
      | else-plan-i w ↦
          let past = planned-next a.plan.now a.group.generation i inside w.if-plan-i.false in record {
            same_answer = sym (ap f past) ∙ c.loop-i.invariant.same_answer;
            same_marks = ap (marks_from from rest) w.marks-is ∙ sym (ap (λ (ks : List ℕ). marks_from from ks c.loop-i.marks) past) ∙ c.loop-i.invariant.same_marks;
            lsns_read = read;
          }
    ]

pub returns-clause-answers : goal.returns-clause-answers
returns-clause-answers c =
    let a = c.args in
    let from = source a.group.settings.slot_bytes a.heap.now a.m.records (used_entries a.table.now) in
    let past = planned-end a.plan.now a.group.generation c.loop-i.i (omega (arith, c.requires.ready.slots)) in
    sym (ap (λ (ks : List ℕ). decide (group_checks a.group.settings.max_object_size from ks)) past ∙ group-none a.group.settings.max_object_size from) ∙ c.loop-i.invariant.same_answer

pub returns-clause-marks : goal.returns-clause-marks
returns-clause-marks c =
    let a = c.args in
    let from = source a.group.settings.slot_bytes a.heap.now a.m.records (used_entries a.table.now) in
    let past = planned-end a.plan.now a.group.generation c.loop-i.i (omega (arith, c.requires.ready.slots)) in
    λ e. sym (ap (λ (ks : List ℕ). marks_from from ks c.loop-i.marks) past ∙ marks-end from c.loop-i.marks)
    ∙ c.loop-i.invariant.same_marks
    ∙ ap (λ (n : ℕ). marks_of from n (planned a.plan.now a.group.generation)) c.fill.ensures.len

pub returns-clause-lsns : goal.returns-clause-lsns
returns-clause-lsns c =
    λ e. c.loop-i.invariant.lsns_read ∙ copied-end (λ (r : Record). r.label.lsn) c.args.m.records c.loop-i.i c.args.lsns.now (omega arith) (omega (arith, c.requires.table_in_bounds.1))
