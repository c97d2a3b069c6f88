use Rattle.std.specs.Prelude.{Some}
use Rattle.std.proofs.lemmas.Result.{err_from_is_err_and}
use mathlib.Core.Path.{◌≡◌, refl, sym, ap, ◌∙◌}
use mathlib.Core.Bool.{Bool, ◌||◌}
use borrow.Author.Tests.{eq-eqb, ne_eqb}
use lib.Dec.{eqb}
use Rattle.rules.specs.Layout.{Table, capacity_of, used_entries}
use Rattle.rules.specs.Table.{lookup}
use Rattle.rules.proofs.TableLaws.{full-mapped}
use Rattle.rules.specs.TableCalls.{compare_call}
use Rattle.rules.specs.Refusal.{decide}
use Rattle.rules.specs.Types.{Answer}
use Rattle.location_table.specs.StoreLaws.{stored_is}
use Rattle.table_calls.specs.Front.{front_tests, front-clear, front-refused}
use Rattle.table_calls.proofs.compare_and_store.Goals as goal

-- what the front leaves
first : (t : Table) {x y : Bool} {r : Answer} → r ≡ decide (front_tests t x) → x ≡ y → decide (front_tests t y) ≡ r
first t e f = sym (e ∙ ap (λ (x : Bool). decide (front_tests t x)) f)

pub returns-in_err-front : goal.returns-in_err-front
unfolding compare_call
returns-in_err-front c =
    let a = c.args in
    let refused = front-refused a.table.now (eqb a.old 0 || eqb a.location 0) _ _ _ _ (first a.table.now c.front.ensures c.either_zero.ensures ∙ c.in_err-front.was) in
    let p = err_from_is_err_and c.from_residual.result c.from_residual.ensures.1 in rw (p.1, p.2) (sym refused)

pub load_in-requires : goal.load_in-requires
load_in-requires c =
    let a = c.args in
    let clear = front-clear a.table.now (eqb a.old 0 || eqb a.location 0) (first a.table.now c.front.ensures c.either_zero.ensures ∙ c.in_ok-front.was) in
    clear.table

pub returns-in_default : goal.returns-in_default
unfolding compare_call decide
returns-in_default c =
    let a = c.args in
    let clear = front-clear a.table.now (eqb a.old 0 || eqb a.location 0) (first a.table.now c.front.ensures c.either_zero.ensures ∙ c.in_ok-front.was) in
    rw (clear.form, clear.given, sym c.load_in.ensures ∙ c.in_default.is) refl

pub returns-then-current-old : goal.returns-then-current-old
unfolding compare_call decide
returns-then-current-old c =
    let a = c.args in
    let clear = front-clear a.table.now (eqb a.old 0 || eqb a.location 0) (first a.table.now c.front.ensures c.either_zero.ensures ∙ c.in_ok-front.was) in
    rw (clear.form, clear.given, sym c.load_in.ensures ∙ c.in-Some.is, ne_eqb _ a.old c.if-current-old.true) refl

pub store_in-requires : goal.store_in-requires
store_in-requires c =
    let a = c.args in
    let clear = front-clear a.table.now (eqb a.old 0 || eqb a.location 0) (first a.table.now c.front.ensures c.either_zero.ensures ∙ c.in_ok-front.was) in
    clear.table

pub returns : goal.returns
unfolding compare_call decide
returns c =
    let a = c.args in
    let clear = front-clear a.table.now (eqb a.old 0 || eqb a.location 0) (first a.table.now c.front.ensures c.either_zero.ensures ∙ c.in_ok-front.was) in
    let held : lookup (used_entries a.table.now) a.id ≡ Some c.in-Some.current = sym c.load_in.ensures ∙ c.in-Some.is in
    let room = full-mapped (used_entries a.table.now) (capacity_of a.table.now) a.id _ held in
    let stored = stored_is a.table.now a.id a.location room _ _ c.store_in.ensures in
    rw (stored, clear.form, clear.given, held, eq-eqb _ a.old c.if-current-old.false) refl
