use mathlib.Core.Path.{◌≡◌, refl, sym, ap, ◌∙◌, subst}
use mathlib.Core.Logic.{inl, inr, ◌⊎◌}
use Prim.Native.Nat.{ℕ, ◌<◌}
use native.Mathlib.Omega.{arith}
use lib.ListN.{length}
use Rattle.rules.proofs.BaseLaws.{or-holds, or-clear}
use Rattle.rules.specs.Types.{RewriteAnswer}
use Rattle.rules.specs.Condition1.{refused1}
use Rattle.rules.proofs.Condition1Laws.{passed}
use Rattle.rules.specs.TwoCalls.{room_of, short}
use Rattle.rules.specs.World.{world, leaving, rewrite_given}
use Rattle.as_numbers.specs.StateWords.{state_in}
use Rattle.gc_notes.specs.Notes.{long-enough, notes-cleared}
use Rattle.gc.proofs.Rewrites.{rewrite-limits, rewrite-outside, rewrite-given, answered-own}
use Rattle.gc.proofs.rewrite_in.Goals as goal
use Rattle.gc.proofs.rewrite_in.Goals.{then-asked-eq0-via-then-asked-eq0, then-asked-eq0-via-else-asked-eq0+then-asked-gt3}

pub returns-then-refused_in : goal.returns-then-refused_in
returns-then-refused_in c =
    let a = c.args in
    let w = world a.settings (state_in a.state.now) a.claims a.heap.now a.table.now in
    let room = room_of a.places.now a.pieces.now in
    let q = c.args.asked in
    record {
      leaves = rewrite-limits w room q.generation q.mark q.count (or-holds (refused1 w) (short room c.args.table.now) (inl (sym c.refused_in.ensures ∙ c.if-refused_in.true)));
      places = refl;
      pieces = refl;
    }

pub returns-then-too_short : goal.returns-then-too_short
returns-then-too_short c =
    let a = c.args in
    let w = world a.settings (state_in a.state.now) a.claims a.heap.now a.table.now in
    let room = room_of a.places.now a.pieces.now in
    let q = c.args.asked in
    record {
      leaves = rewrite-limits w room q.generation q.mark q.count (or-holds (refused1 w) (short room c.args.table.now) (inr (sym c.too_short.ensures ∙ c.if-too_short.true)));
      places = refl;
      pieces = refl;
    }

pub returns-then-asked-eq0 : goal.returns-then-asked-eq0
returns-then-asked-eq0 c =
    let a = c.args in
    let w = world a.settings (state_in a.state.now) a.claims a.heap.now a.table.now in
    let room = room_of a.places.now a.pieces.now in
    let q = c.args.asked in
    let outside : (q.generation ≡ 0) ⊎ (3 < q.generation) = elim c.then-asked-eq0.branch [ then-asked-eq0-via-then-asked-eq0 x ↦ inl (omega arith) | then-asked-eq0-via-else-asked-eq0+then-asked-gt3 x ↦ inr (omega arith) ] in
    let clear = or-clear _ _ (sym c.refused_in.ensures ∙ c.if-refused_in.false) (sym c.too_short.ensures ∙ c.if-too_short.false) in record {
      leaves = rewrite-outside w room q.generation q.mark q.count clear outside;
      places = c.clear.ensures;
      pieces = c.clear-then-asked-eq0.ensures;
    }

pub rewrite_generation-answer-requires : goal.rewrite_generation-answer-requires
rewrite_generation-answer-requires c =
    let a = c.args in
    let some = c.if-asked-eq0.false in record {
      passed_2 = passed a.settings (length a.heap.now) a.table.now (state_in a.state.now) (sym c.refused_in.ensures ∙ c.if-refused_in.false);
      table_in_bounds = long-enough a.places.now a.pieces.now a.table.now (sym c.too_short.ensures ∙ c.if-too_short.false);
      generation_nonzero = (omega (arith, some), omega arith);
    }

pub returns : goal.returns
returns c =
    let a = c.args in
    let w = world a.settings (state_in a.state.now) a.claims a.heap.now a.table.now in
    let room = room_of a.places.now a.pieces.now in
    let q = c.args.asked in
    let some = c.if-asked-eq0.false in
    let clear = or-clear _ _ (sym c.refused_in.ensures ∙ c.if-refused_in.false) (sym c.too_short.ensures ∙ c.if-too_short.false) in
    let done = c.rewrite_generation-answer in
    let after = world a.settings (state_in done.new.state) a.claims done.new.heap done.new.table in
    let answered = rewrite_given done.result in
    let own : answered.number ≡ 1 → ⊥ = answered-own q.generation done.result after w q.mark q.count done.ensures.leaves in record {
      leaves = rewrite-given w room q.generation q.mark q.count clear (omega (arith, some)) (omega arith) done.result after done.ensures.leaves;
      places = notes-cleared answered c.args.places.now done.new.places _ own done.auto.places c.clear-2.ensures;
      pieces = notes-cleared answered c.args.pieces.now done.new.pieces _ own done.auto.pieces c.clear-3.ensures;
    }
