use Rattle.std.specs.Prelude.{Ok}
use mathlib.Core.Path.{sym, ◌∙◌}
use mathlib.Core.Logic.{inl, inr}
use Prim.Native.Nat.{ℕ}
use lib.ListN.{length}
use Rattle.rules.proofs.BaseLaws.{or-holds, or-clear}
use Rattle.rules.specs.Condition1.{refused1}
use Rattle.rules.proofs.Condition1Laws.{passed}
use Rattle.rules.specs.TwoCalls.{room_of, short}
use Rattle.rules.specs.World.{World, world}
use Rattle.as_numbers.specs.StateWords.{state_in}
use Rattle.gc_notes.specs.Notes.{long-enough, notes-cleared}
use Rattle.gc_plan.specs.Plans.{plan_given, plan-refused, plan-accepted, notes-kept, plan-own}
use Rattle.gc_plan.proofs.plan_in.Goals as goal

pub returns-then-refused_in : goal.returns-then-refused_in
returns-then-refused_in c =
    let a = c.args in
    let e = or-holds (refused1 (world a.settings (state_in a.state.now) a.claims a.heap.now a.table.now)) (short (room_of a.places.now a.pieces.now) c.args.table.now) (inl (sym c.refused_in.ensures ∙ c.if-refused_in.true)) in
    let none = c.refused.ensures in
    record {
      answers = none ∙ plan-refused (world a.settings (state_in a.state.now) a.claims a.heap.now a.table.now) (room_of a.places.now a.pieces.now) e;
      places = notes-kept _ none _;
      pieces = notes-kept _ none _;
    }

pub returns-then-too_short : goal.returns-then-too_short
returns-then-too_short c =
    let a = c.args in
    let e = or-holds (refused1 (world a.settings (state_in a.state.now) a.claims a.heap.now a.table.now)) (short (room_of a.places.now a.pieces.now) c.args.table.now) (inr (sym c.too_short.ensures ∙ c.if-too_short.true)) in
    let none = c.refused-then-too_short.ensures in
    record {
      answers = none ∙ plan-refused (world a.settings (state_in a.state.now) a.claims a.heap.now a.table.now) (room_of a.places.now a.pieces.now) e;
      places = notes-kept _ none _;
      pieces = notes-kept _ none _;
    }

pub worked_out-worked-requires : goal.worked_out-worked-requires
worked_out-worked-requires c =
    let a = c.args in record {
      passed = passed a.settings (length a.heap.now) a.table.now (state_in a.state.now) (sym c.refused_in.ensures ∙ c.if-refused_in.false);
      table_in_bounds = long-enough a.places.now a.pieces.now a.table.now (sym c.too_short.ensures ∙ c.if-too_short.false);
    }

pub returns : goal.returns
returns c =
    let a = c.args in
    let clear = or-clear _ _ (sym c.refused_in.ensures ∙ c.if-refused_in.false) (sym c.too_short.ensures ∙ c.if-too_short.false) in
    let answered = plan_given (record { answer = Ok tt; plan = c.worked_out-worked.result }) in
    let own = plan-own c.worked_out-worked.result in record {
      answers = plan-accepted (world a.settings (state_in a.state.now) a.claims a.heap.now a.table.now) (room_of a.places.now a.pieces.now) clear _ c.worked_out-worked.ensures;
      places = notes-cleared answered a.places.now c.worked_out-worked.new.places _ own c.worked_out-worked.auto.places c.clear.ensures;
      pieces = notes-cleared answered a.pieces.now c.worked_out-worked.new.pieces _ own c.worked_out-worked.auto.pieces c.clear-2.ensures;
    }
