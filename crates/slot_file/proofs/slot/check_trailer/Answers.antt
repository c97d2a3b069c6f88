use Rattle.std.proofs.lemmas.Result.{err_from_is_err_and}
use mathlib.Core.Path.{refl, sym, ◌∙◌}
use borrow.Author.Tests.{eq-eqb, ne_eqb}
use Rattle.rules.specs.Trailer.{count_in}
use Rattle.trailer.specs.Entries.{clear-fits}
use Rattle.slot_file.specs.Slots.{entry-refused, entry-clear}
use native.Mathlib.Omega.{arith}
use Rattle.slot_file.proofs.slot.check_trailer.Goals as goal

-- ---- 9, 10 and 11 are clear
pub some_misplaced-requires : goal.some_misplaced-requires
some_misplaced-requires c = clear-fits c.args.bytes.now (sym c.check.ensures ∙ c.in_ok-check.was)

pub returns-then-some_misplaced : goal.returns-then-some_misplaced
returns-then-some_misplaced c =
    let a = c.args in
    let clear = sym c.check.ensures ∙ c.in_ok-check.was in
    sym (entry-clear a.l a.bytes.now clear ∙ rw (← c.some_misplaced.ensures, c.if-some_misplaced.true) refl)

pub count-requires : goal.count-requires
count-requires c =
    omega (arith, clear-fits c.args.bytes.now (sym c.check.ensures ∙ c.in_ok-check.was))

pub returns-then-l-count : goal.returns-then-l-count
returns-then-l-count c =
    let a = c.args in
    let t = a.bytes.now in
    let clear = sym c.check.ensures ∙ c.in_ok-check.was in
    sym (entry-clear a.l t clear
    ∙ rw (← c.some_misplaced.ensures, c.if-some_misplaced.false, ne_eqb a.l.present_objects (count_in t) (λ e. c.if-l-count.true (e ∙ sym c.count.ensures))) refl)

pub returns-in_err-check : goal.returns-in_err-check
returns-in_err-check c =
    let a = c.args in
    let p = err_from_is_err_and c.from_residual.result c.from_residual.ensures.1 in
    rw (p.1, p.2) (sym (entry-refused a.l a.bytes.now _ (sym c.check.ensures ∙ c.in_err-check.was)))

pub returns : goal.returns
returns c =
    let a = c.args in
    let t = a.bytes.now in
    let clear = sym c.check.ensures ∙ c.in_ok-check.was in
    sym (entry-clear a.l t clear
    ∙ rw (← c.some_misplaced.ensures, c.if-some_misplaced.false, eq-eqb a.l.present_objects (count_in t) (c.if-l-count.false ∙ c.count.ensures)) refl)
