use mathlib.Core.Path.{refl, sym, ◌∙◌}
use Rattle.rules.specs.Refusal.{decide}
use Rattle.table_calls.proofs.front.Goals as goal

pub returns-then-not-formed : goal.returns-then-not-formed
unfolding decide
returns-then-not-formed c = rw (sym c.formed.ensures ∙ c.if-not-formed.true) refl

pub returns-then-absent : goal.returns-then-absent
unfolding decide
returns-then-absent c = rw (sym c.formed.ensures ∙ c.if-not-formed.false, c.if-absent.true) refl

pub returns : goal.returns
unfolding decide
returns c = rw (sym c.formed.ensures ∙ c.if-not-formed.false, c.if-absent.false) refl
