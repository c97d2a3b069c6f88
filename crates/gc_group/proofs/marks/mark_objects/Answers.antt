use Rattle.std.specs.Prelude.{Ok}
use Prim.Native.Nat.{ℕ, ◌+◌, ◌≤◌, ◌-◌, zero-le}
use mathlib.Core.Path.{◌≡◌, sym, ap, ◌∙◌, refl}
use mathlib.Core.Bool.{false}
use mathlib.Core.List.{List}
use native.Mathlib.Omega.{arith}
use lib.ListN.{length, drop}
use Rattle.rules.specs.Types.{Answer}
use Rattle.stored_object.specs.declared.Header.{Header}
use Rattle.disk_location.specs.Answers.{Located}
use Rattle.disk_location.specs.Locations.{raw_of, told}
use Rattle.rules.specs.Base.{each}
use Rattle.rules.specs.Object.{Stored, stored_at}
use Rattle.rules.specs.Refusal.{decide}
use Rattle.rules.specs.Maintenance.{moved_tests}
use Rattle.rules.specs.Layout.{used_entries}
use Rattle.location_table.specs.LayoutLaws.{used-rising}
use Rattle.stored_object.specs.Objects.{Walked, objects_at, objects-start, told-by}
use Rattle.gc_group.proofs.Checks.{walk_end, walk-cut, walk_refused, walk-on, walk_inside}
use Rattle.gc_group.specs.Marks.{object_id, marked, current}
use Rattle.gc_group.proofs.MarkLaws.{located-raw, marked-length}
use Rattle.gc_group.proofs.MarkTurns.{objects-done, objects-mark}
use Rattle.std.proofs.lemmas.Result.{err_from_is_err_and}
use Rattle.gc_group.proofs.marks.mark_objects.Goals as goal

-- behind an object that passes
further : (limit : ℕ) (t objects : List ℕ) (position : ℕ) (h : Header) (answer : Answer) → Walked objects position h
    → answer ≡ decide (moved_tests limit (used_entries t) (stored_at position (drop position objects))) → answer ≡ Ok tt
    → (position + (20 + h.size) ≤ length objects)
    × (decide (each (moved_tests limit (used_entries t)) (objects_at objects position)) ≡ decide (each (moved_tests limit (used_entries t)) (objects_at objects (position + (20 + h.size)))))
further limit t objects position h answer walked decided done =
    let passes = sym decided ∙ done in
    (walk_inside limit (used_entries t) objects position _ walked passes, walk-on limit (used_entries t) objects position _ walked passes)

pub loop-h-init : goal.loop-h-init
loop-h-init c =
    let a = c.args in
    let table = used_entries a.table.now in
    let whole = objects-start a.objects.now in (
      zero-le,
      refl,
      ap (λ (os : List Stored). decide (each (moved_tests a.limit table) os)) whole,
      ap (λ (os : List Stored). marked a.mark (each (object_id a.lsn table) os) table a.marks.now) whole,
    )

pub returns-in-End : goal.returns-in-End
returns-in-End c =
    let a = c.args in
    let table = used_entries a.table.now in
    let position = c.loop-h.position in
    let past = told-by a.objects.now position _ (sym c.step.ensures ∙ c.in-End.is) in record {
      answers = sym (walk_end a.limit table a.objects.now position past) ∙ c.loop-h.invariant.2;
      marks = λ e. sym (objects-done a.mark a.lsn table a.objects.now position c.loop-h.marks past) ∙ c.loop-h.invariant.3;
    }

pub returns-in-HeaderCut : goal.returns-in-HeaderCut
returns-in-HeaderCut c =
    let a = c.args in
    let cut = told-by a.objects.now c.loop-h.position _ (sym c.step.ensures ∙ c.in-HeaderCut.is) in record {
      answers = sym (walk-cut a.limit (used_entries a.table.now) a.objects.now c.loop-h.position cut) ∙ c.loop-h.invariant.2;
      marks = λ e. absurd (let z : ◌≡◌ {A = ℕ} 0 1 = cc in omega arith);
    }

pub returns-in_err-check_object-in-Here-clause-answers : goal.returns-in_err-check_object-in-Here-clause-answers
returns-in_err-check_object-in-Here-clause-answers c =
    let a = c.args in
    let p = err_from_is_err_and c.from_residual.result c.from_residual.ensures.1 in
    rw (p.1, p.2) (sym (walk_refused a.limit (used_entries a.table.now) a.objects.now c.loop-h.position _ (told-by _ _ _ (sym c.step.ensures ∙ c.in-Here.is)) _
    (sym (c.check_object.ensures (used_entries c.args.table.now) (used-rising c.args.table.now c.requires.formed) c.find_near-found.ensures) ∙ c.in_err-check_object-in-Here.was))
    ∙ c.loop-h.invariant.2)

pub check_object-requires : goal.check_object-requires
check_object-requires c = told-by _ _ _ (sym c.step.ensures ∙ c.in-Here.is)

pub overflow_add-lsn : goal.overflow_add-lsn
overflow_add-lsn c =
    omega (arith, c.requires.objects_bound, c.loop-h.invariant.0)

pub mark_at-requires : goal.mark_at-requires
mark_at-requires c =
    record {
      formed = (c.requires.formed, c.find_near-found.ensures);
      table_in_bounds = omega (arith, c.requires.table_in_bounds, c.loop-h.invariant.1);
    }

pub overflow_add-position : goal.overflow_add-position
overflow_add-position c = omega (arith, (further c.args.limit c.args.table.now c.args.objects.now c.loop-h.position _ _ (told-by _ _ _ (sym c.step.ensures ∙ c.in-Here.is)) (c.check_object.ensures (used_entries c.args.table.now) (used-rising c.args.table.now c.requires.formed) c.find_near-found.ensures) c.in_ok-check_object-in-Here.was).0)

pub overflow_add-position-in-Here : goal.overflow_add-position-in-Here
overflow_add-position-in-Here c = omega (arith, (further c.args.limit c.args.table.now c.args.objects.now c.loop-h.position _ _ (told-by _ _ _ (sym c.step.ensures ∙ c.in-Here.is)) (c.check_object.ensures (used_entries c.args.table.now) (used-rising c.args.table.now c.requires.formed) c.find_near-found.ensures) c.in_ok-check_object-in-Here.was).0)

pub loop-h-smaller : goal.loop-h-smaller
loop-h-smaller c = omega (arith, (further c.args.limit c.args.table.now c.args.objects.now c.loop-h.position _ _ (told-by _ _ _ (sym c.step.ensures ∙ c.in-Here.is)) (c.check_object.ensures (used_entries c.args.table.now) (used-rising c.args.table.now c.requires.formed) c.find_near-found.ensures) c.in_ok-check_object-in-Here.was).0)

pub loop-h-preserved : goal.loop-h-preserved
loop-h-preserved c =
    let a = c.args in
    let table = used_entries a.table.now in
    let more = further c.args.limit c.args.table.now c.args.objects.now c.loop-h.position _ _ (told-by _ _ _ (sym c.step.ensures ∙ c.in-Here.is)) (c.check_object.ensures (used_entries c.args.table.now) (used-rising c.args.table.now c.requires.formed) c.find_near-found.ensures) c.in_ok-check_object-in-Here.was in
    let position = c.loop-h.position in
    let h = c.in-Here.h in
    let next = position + (20 + h.size) in
    let raw : c.raw.result ≡ raw_of (a.lsn + position) false =
    c.raw.ensures ∙ ap (λ (l : Located). (told l).raw) c.new-location.ensures ∙ located-raw (a.lsn + position) false (omega (arith, c.requires.objects_bound, c.loop-h.invariant.0)) in
    let after : c.mark_at.new.marks ≡ marked a.mark (current table h.id (raw_of (a.lsn + position) false)) table c.loop-h.marks =
    c.mark_at.ensures ∙ ap (λ (n : ℕ). marked a.mark (current table h.id n) table c.loop-h.marks) raw in (
      more.0,
      ap length after ∙ marked-length a.mark _ table c.loop-h.marks ∙ c.loop-h.invariant.1,
      sym more.1 ∙ c.loop-h.invariant.2,
      ap (λ (ms : List ℕ). marked a.mark (each (object_id a.lsn table) (objects_at a.objects.now next)) table ms) after
          ∙ sym (objects-mark a.mark a.lsn table a.objects.now position c.loop-h.marks h (told-by _ _ _ (sym c.step.ensures ∙ c.in-Here.is))) ∙ c.loop-h.invariant.3,
    )
