use mathlib.Core.Path.{◌≡◌, refl, sym, ap, ◌∙◌, subst}
use mathlib.Core.Logic.{inl, inr}
use Prim.Native.Nat.{ℕ}
use lib.ListN.{length}
use Rattle.rules.proofs.BaseLaws.{or-holds, or-clear}
use Rattle.rules.specs.Types.{MaintainAnswer}
use Rattle.rules.specs.Condition1.{refused1}
use Rattle.rules.proofs.Condition1Laws.{passed, passes}
use Rattle.rules.specs.Maintenance.{Course}
use Rattle.rules.specs.TwoCalls.{room_of, short, job_ended}
use Rattle.rules.specs.World.{world, maintain_given}
use Rattle.as_numbers.specs.StateWords.{state_in}
use Rattle.prune.specs.Labels.{passed-labels}
use Rattle.gc_notes.specs.Notes.{long-enough, notes-cleared}
use Rattle.gc_course.specs.RunLaws.{ended-own, nightly-refused, nightly-accepted}
use Rattle.gc_nightly.proofs.nightly_in.Goals as goal

pub returns-then-refused_in : goal.returns-then-refused_in
returns-then-refused_in c =
    let a = c.args in
    let w = world a.settings (state_in a.state.now) a.claims a.heap.now a.table.now in
    let room = room_of a.places.now a.pieces.now in
    let e = or-holds (refused1 w) (short room c.args.table.now) (inl (sym c.refused_in.ensures ∙ c.if-refused_in.true)) in
    record {
      leaves = nightly-refused w room e;
      places = refl;
      pieces = refl;
    }

pub returns-then-too_short : goal.returns-then-too_short
returns-then-too_short c =
    let a = c.args in
    let w = world a.settings (state_in a.state.now) a.claims a.heap.now a.table.now in
    let room = room_of a.places.now a.pieces.now in
    let e = or-holds (refused1 w) (short room c.args.table.now) (inr (sym c.too_short.ensures ∙ c.if-too_short.true)) in
    record {
      leaves = nightly-refused w room e;
      places = refl;
      pieces = refl;
    }

pub rewrites-answer-requires : goal.rewrites-answer-requires
rewrites-answer-requires c =
    let a = c.args in record {
      passed_2 = passed a.settings (length a.heap.now) a.table.now (state_in a.state.now) (sym c.refused_in.ensures ∙ c.if-refused_in.false);
      table_in_bounds = long-enough a.places.now a.pieces.now a.table.now (sym c.too_short.ensures ∙ c.if-too_short.false);
    }

pub finish-requires : goal.finish-requires
finish-requires c =
    let a = c.args in
    passed-labels a.settings _ _ _ c.rewrites-answer.ensures.passed

pub returns : goal.returns
returns c =
    let a = c.args in
    let w = world a.settings (state_in a.state.now) a.claims a.heap.now a.table.now in
    let room = room_of a.places.now a.pieces.now in
    let still = passes a.settings _ _ _ c.rewrites-answer.ensures.passed in
    let clear = or-clear _ _ (sym c.refused_in.ensures ∙ c.if-refused_in.false) (sym c.too_short.ensures ∙ c.if-too_short.false) in
    let answered = maintain_given c.rewrites-answer.result in
    let own : answered.number ≡ 1 → ⊥ = ended-own c.rewrites-answer.result c.rewrites-answer.ensures.own in record {
      leaves = c.finish.ensures c.rewrites-answer.new.table still ∙ ap (λ (d : Course). job_ended d.stop d) c.rewrites-answer.ensures.leaves ∙ nightly-accepted w room clear;
      places = notes-cleared answered a.places.now c.rewrites-answer.new.places _ own c.rewrites-answer.auto.places c.clear.ensures;
      pieces = notes-cleared answered a.pieces.now c.rewrites-answer.new.pieces _ own c.rewrites-answer.auto.pieces c.clear-2.ensures;
    }
