use Rattle.std.proofs.lemmas.Result.{err_from_is_err_and}
use mathlib.Core.Path.{refl, sym, ◌∙◌}
use lib.Dec.{eqb}
use Rattle.rules.specs.TableCalls.{store_call}
use Rattle.rules.specs.Refusal.{decide}
use Rattle.location_table.specs.StoreLaws.{room-tells, no-room-tells}
use Rattle.table_calls.specs.Front.{front-clear, front-refused}
use Rattle.table_calls.proofs.store.Goals as goal

pub returns-in_err-front : goal.returns-in_err-front
unfolding store_call
returns-in_err-front c =
    let refused = front-refused c.args.table.now (eqb c.args.location 0) _ _ _ _ (sym c.front.ensures ∙ c.in_err-front.was) in
    let p = err_from_is_err_and c.from_residual.result c.from_residual.ensures.1 in rw (p.1, p.2) (sym refused)

pub store_in-requires : goal.store_in-requires
store_in-requires c =
    let a = c.args in
    (front-clear a.table.now (eqb a.location 0) (sym c.front.ensures ∙ c.in_ok-front.was)).table

pub returns-then-not-store_in : goal.returns-then-not-store_in
unfolding store_call decide
returns-then-not-store_in c =
    let a = c.args in
    let clear = front-clear a.table.now (eqb a.location 0) (sym c.front.ensures ∙ c.in_ok-front.was) in
    let t = no-room-tells a.table.now a.id a.location _ _ c.store_in.ensures c.if-not-store_in.true in
    rw (t.1, clear.form, clear.given, t.0) refl

pub returns : goal.returns
unfolding store_call decide
returns c =
    let a = c.args in
    let clear = front-clear a.table.now (eqb a.location 0) (sym c.front.ensures ∙ c.in_ok-front.was) in
    let t = room-tells a.table.now a.id a.location _ _ c.store_in.ensures c.if-not-store_in.false in
    rw (t.1, clear.form, clear.given, t.0) refl
