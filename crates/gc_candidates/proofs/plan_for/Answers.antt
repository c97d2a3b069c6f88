use mathlib.Core.Path.{sym, ◌∙◌}
use Rattle.gc_candidates.specs.Plan.{plan_for}
use Rattle.gc_candidates.proofs.plan_for.Goals as goal

pub returns-then-is_candidate : goal.returns-then-is_candidate
unfolding plan_for
returns-then-is_candidate c = let e = sym c.is_candidate.ensures ∙ c.if-is_candidate.true in rw e c.new_generation.ensures

pub returns : goal.returns
unfolding plan_for
returns c = let e = sym c.is_candidate.ensures ∙ c.if-is_candidate.false in rw e
