use Rattle.std.specs.Prelude.{Ok}
use Prim.Native.Nat.{ℕ, ◌+◌, ◌≤◌, ◌*◌}
use mathlib.Core.Path.{◌≡◌, sym, ap, ap₂, ◌∙◌, subst}
use mathlib.Core.List.{List}
use native.Mathlib.Omega.{arith}
use lib.ListN.{length}
use Rattle.rules.specs.Base.{each}
use Rattle.rules.specs.BaseLaws.{All}
use Rattle.rules.specs.declared.Label.{Label}
use Rattle.rules.specs.Types.{Answer}
use Rattle.rules.specs.Refusal.{decide}
use Rattle.rules.specs.Object.{objects_in}
use Rattle.rules.specs.Trailer.{count_in, trailer_tests, entries_in}
use Rattle.rules.specs.SlotFile.{object_part, trailer_part}
use Rattle.rules.specs.Maintenance.{moved_tests, file_tests}
use Rattle.rules.specs.Layout.{used_entries}
use Rattle.trailer.specs.Entries.{clear-fits}
use Rattle.gc_group.specs.Checks.{entry_tests}
use Rattle.gc_group.proofs.Checks.{file-trailer, file-object, file-deletes}
use Rattle.gc_group.proofs.Source.{part_length}
use Rattle.gc_group.specs.Clear.{SumFits}
use Rattle.gc_group.proofs.Clear.{file-clear}
use Rattle.gc_group.specs.Marks.{object_id, delete_id, marked}
use Rattle.gc_group.proofs.MarkLaws.{marked-length, mark-file}
use Rattle.std.proofs.lemmas.Result.{err_from_is_err_and}
use Rattle.gc_group.proofs.marks.mark_file.Goals as goal

-- ---- what is decided of the trailer, of the objects
trailer-is : (slot : List ℕ) (l : Label) (part : List ℕ) (answer : Answer) → part ≡ trailer_part l slot → answer ≡ decide (trailer_tests part)
    → decide (trailer_tests (trailer_part l slot)) ≡ answer
trailer-is slot l part answer is checked = ap (λ (s : List ℕ). decide (trailer_tests s)) (sym is) ∙ sym checked

objects-are : (limit : ℕ) (t slot : List ℕ) (l : Label) (part : List ℕ) (answer : Answer) → part ≡ object_part l slot
    → answer ≡ decide (each (moved_tests limit (used_entries t)) (objects_in part))
    → decide (each (moved_tests limit (used_entries t)) (objects_in (object_part l slot))) ≡ answer
objects-are limit t slot l part answer is marked_as = ap (λ (s : List ℕ). decide (each (moved_tests limit (used_entries t)) (objects_in s))) (sym is) ∙ sym marked_as

-- and of the whole file, where neither refuses
file-is : (limit : ℕ) (t slot : List ℕ) (l : Label) (trailer : List ℕ) (answer : Answer) → trailer ≡ trailer_part l slot
    → decide (trailer_tests (trailer_part l slot)) ≡ Ok tt
    → decide (each (moved_tests limit (used_entries t)) (objects_in (object_part l slot))) ≡ Ok tt
    → answer ≡ decide (each (entry_tests l.lsn (used_entries t)) (entries_in trailer))
    → answer ≡ decide (file_tests limit (used_entries t) l slot)
file-is limit t slot l trailer answer is clear objects deletes =
    deletes ∙ ap (λ (s : List ℕ). decide (each (entry_tests l.lsn (used_entries t)) (entries_in s))) is
    ∙ sym (file-deletes limit (used_entries t) l slot clear objects)

pub returns-in_err-check-clause-answers : goal.returns-in_err-check-clause-answers
returns-in_err-check-clause-answers c =
    let a = c.args in
    let p = err_from_is_err_and c.from_residual.result c.from_residual.ensures.1 in
    rw (p.1, p.2) (sym (file-trailer a.limit (used_entries a.table.now) a.l a.slot.now _ (trailer-is c.args.slot.now c.args.l _ _ c.trailer_part-trailer.ensures c.check.ensures ∙ c.in_err-check.was)))

pub mark_objects-requires : goal.mark_objects-requires
mark_objects-requires c =
    let part = c.object_part.ensures in
    record {
      objects_bound = omega (arith, ap length part, part_length c.args.l c.args.slot.now, c.requires.lies.positions);
      formed = c.requires.formed;
      table_in_bounds = c.requires.table_in_bounds;
    }

pub returns-in_err-mark_objects-clause-answers : goal.returns-in_err-mark_objects-clause-answers
returns-in_err-mark_objects-clause-answers c =
    let a = c.args in
    let p = err_from_is_err_and c.from_residual-in_err-mark_objects.result c.from_residual-in_err-mark_objects.ensures.1 in
    rw (p.1, p.2) (sym (file-object a.limit (used_entries a.table.now) a.l a.slot.now (trailer-is c.args.slot.now c.args.l _ _ c.trailer_part-trailer.ensures c.check.ensures ∙ c.in_ok-check.was) _ (objects-are c.args.limit c.args.table.now c.args.slot.now c.args.l _ _ c.object_part.ensures c.mark_objects.ensures.answers ∙ c.in_err-mark_objects.was)))

pub check_deletes-requires : goal.check_deletes-requires
check_deletes-requires c =
    record {
      trailer_in_bounds = clear-fits _ (sym c.check.ensures ∙ c.in_ok-check.was);
      formed = c.requires.formed;
    }

pub returns-in_err-check_deletes-clause-answers : goal.returns-in_err-check_deletes-clause-answers
returns-in_err-check_deletes-clause-answers c =
    let whole = file-is c.args.limit c.args.table.now c.args.slot.now c.args.l _ _ c.trailer_part-trailer.ensures
    (trailer-is c.args.slot.now c.args.l _ _ c.trailer_part-trailer.ensures c.check.ensures ∙ c.in_ok-check.was)
    (objects-are c.args.limit c.args.table.now c.args.slot.now c.args.l _ _ c.object_part.ensures c.mark_objects.ensures.answers ∙ c.in_ok-mark_objects.was)
    c.check_deletes.ensures in
    let p = err_from_is_err_and c.from_residual-in_err-check_deletes.result c.from_residual-in_err-check_deletes.ensures.1 in
    rw (p.1, p.2) (sym c.in_err-check_deletes.was ∙ whole)

pub mark_deletes-requires : goal.mark_deletes-requires
mark_deletes-requires c =
    let a = c.args in
    let whole = file-is c.args.limit c.args.table.now c.args.slot.now c.args.l _ _ c.trailer_part-trailer.ensures
    (trailer-is c.args.slot.now c.args.l _ _ c.trailer_part-trailer.ensures c.check.ensures ∙ c.in_ok-check.was)
    (objects-are c.args.limit c.args.table.now c.args.slot.now c.args.l _ _ c.object_part.ensures c.mark_objects.ensures.answers ∙ c.in_ok-mark_objects.was)
    c.check_deletes.ensures in
    let part = c.trailer_part-trailer.ensures in
    let clear = file-clear a.limit (used_entries a.table.now) a.l a.slot.now (sym whole ∙ c.in_ok-check_deletes.was) in record {
      trailer_in_bounds = subst (λ (s : List ℕ). 12 + 16 * count_in s ≤ length s) (sym part) clear.entries;
      all = subst (λ (s : List ℕ). All (SumFits a.l.lsn) (entries_in s)) (sym part) clear.deletes;
      formed = c.requires.formed;
      table_in_bounds = omega (arith, c.requires.table_in_bounds, ap length (c.mark_objects.ensures.marks c.in_ok-mark_objects.was) ∙ marked-length a.mark _ (used_entries a.table.now) a.marks.now);
    }

pub returns : goal.returns
returns c =
    let a = c.args in
    let whole = file-is c.args.limit c.args.table.now c.args.slot.now c.args.l _ _ c.trailer_part-trailer.ensures
    (trailer-is c.args.slot.now c.args.l _ _ c.trailer_part-trailer.ensures c.check.ensures ∙ c.in_ok-check.was)
    (objects-are c.args.limit c.args.table.now c.args.slot.now c.args.l _ _ c.object_part.ensures c.mark_objects.ensures.answers ∙ c.in_ok-mark_objects.was)
    c.check_deletes.ensures in
    let table = used_entries a.table.now in record {
      answers = sym c.in_ok-check_deletes.was ∙ whole;
      marks = λ e.
          c.mark_deletes.ensures
          ∙ ap₂ (λ (s ms : List ℕ). marked a.mark (each (delete_id a.l.lsn table) (entries_in s)) table ms) c.trailer_part-trailer.ensures
          (c.mark_objects.ensures.marks c.in_ok-mark_objects.was
          ∙ ap (λ (s : List ℕ). marked a.mark (each (object_id a.l.lsn table) (objects_in s)) table a.marks.now) c.object_part.ensures)
          ∙ sym (mark-file a.mark table a.l a.slot.now a.marks.now);
    }
