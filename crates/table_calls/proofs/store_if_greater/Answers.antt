use Rattle.std.specs.Prelude.{Some}
use Rattle.std.proofs.lemmas.Result.{err_from_is_err_and}
use mathlib.Core.Path.{◌≡◌, refl, sym, ◌∙◌}
use mathlib.Core.Bool.{false}
use borrow.Author.Tests.{eq-eqb, ne_eqb, lt-ltb, le-ltb}
use lib.Dec.{eqb}
use Rattle.rules.specs.Layout.{capacity_of, used_entries}
use Rattle.rules.specs.Table.{lookup, full}
use Rattle.rules.proofs.TableLaws.{full-mapped}
use Rattle.rules.specs.TableCalls.{greater_call}
use Rattle.rules.specs.Refusal.{decide}
use Rattle.location_table.specs.StoreLaws.{room-tells, no-room-tells, stored_is}
use Rattle.table_calls.specs.Front.{front-clear, front-refused}
use Rattle.table_calls.proofs.store_if_greater.Goals as goal

pub returns-in_err-front : goal.returns-in_err-front
unfolding greater_call
returns-in_err-front c =
    let refused = front-refused c.args.table.now (eqb c.args.location 0) _ _ _ _ (sym c.front.ensures ∙ c.in_err-front.was) in
    let p = err_from_is_err_and c.from_residual.result c.from_residual.ensures.1 in rw (p.1, p.2) (sym refused)

pub load_in-requires : goal.load_in-requires
load_in-requires c =
    let a = c.args in
    let clear = front-clear a.table.now (eqb a.location 0) (sym c.front.ensures ∙ c.in_ok-front.was) in
    clear.table

pub store_in-requires : goal.store_in-requires
store_in-requires c =
    let a = c.args in
    let clear = front-clear a.table.now (eqb a.location 0) (sym c.front.ensures ∙ c.in_ok-front.was) in
    clear.table

pub returns-then-not-store_in : goal.returns-then-not-store_in
unfolding greater_call decide
returns-then-not-store_in c =
    let a = c.args in
    let clear = front-clear a.table.now (eqb a.location 0) (sym c.front.ensures ∙ c.in_ok-front.was) in
    let t = no-room-tells a.table.now a.id a.location _ _ c.store_in.ensures c.if-not-store_in.true in
    rw (t.1, clear.form, clear.given, t.0, sym c.load_in.ensures ∙ c.in_default.is) refl

pub returns-in_default : goal.returns-in_default
unfolding greater_call decide
returns-in_default c =
    let a = c.args in
    let clear = front-clear a.table.now (eqb a.location 0) (sym c.front.ensures ∙ c.in_ok-front.was) in
    let t = room-tells a.table.now a.id a.location _ _ c.store_in.ensures c.if-not-store_in.false in
    rw (t.1, clear.form, clear.given, t.0, sym c.load_in.ensures ∙ c.in_default.is) refl

pub returns-then-current-location : goal.returns-then-current-location
unfolding greater_call decide
returns-then-current-location c =
    let a = c.args in
    let clear = front-clear a.table.now (eqb a.location 0) (sym c.front.ensures ∙ c.in_ok-front.was) in
    rw (clear.form, clear.given, sym c.load_in.ensures ∙ c.in-Some.is, eq-eqb _ a.location c.if-current-location.true) refl

pub store_in-requires-then-current-location-2 : goal.store_in-requires-then-current-location-2
store_in-requires-then-current-location-2 c =
    let a = c.args in
    let clear = front-clear a.table.now (eqb a.location 0) (sym c.front.ensures ∙ c.in_ok-front.was) in
    clear.table

pub returns-then-current-location-2 : goal.returns-then-current-location-2
unfolding greater_call decide
returns-then-current-location-2 c =
    let a = c.args in
    let clear = front-clear a.table.now (eqb a.location 0) (sym c.front.ensures ∙ c.in_ok-front.was) in
    let held : lookup (used_entries a.table.now) a.id ≡ Some c.in-Some.current = sym c.load_in.ensures ∙ c.in-Some.is in
    let room : full (used_entries a.table.now) (capacity_of a.table.now) a.id ≡ false = full-mapped (used_entries a.table.now) (capacity_of a.table.now) a.id _ held in
    let stored = stored_is a.table.now a.id a.location room _ _ c.store_in-then-current-location-2.ensures in
    rw (stored, clear.form, clear.given, room, held, ne_eqb _ a.location c.if-current-location.false, lt-ltb _ a.location c.if-current-location-2.true) refl

pub returns-else-current-location-2 : goal.returns-else-current-location-2
unfolding greater_call decide
returns-else-current-location-2 c =
    let a = c.args in
    let clear = front-clear a.table.now (eqb a.location 0) (sym c.front.ensures ∙ c.in_ok-front.was) in
    let held : lookup (used_entries a.table.now) a.id ≡ Some c.in-Some.current = sym c.load_in.ensures ∙ c.in-Some.is in
    let room : full (used_entries a.table.now) (capacity_of a.table.now) a.id ≡ false = full-mapped (used_entries a.table.now) (capacity_of a.table.now) a.id _ held in
    rw (clear.form, clear.given, room, held, ne_eqb _ a.location c.if-current-location.false, le-ltb _ a.location c.if-current-location-2.false) refl
