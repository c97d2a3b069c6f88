use mathlib.Core.Path.{sym, ◌∙◌}
use Rattle.rules.specs.Base.{padded}
use Rattle.rules.specs.Refusal.{decide}
use Rattle.rules.specs.Sync.{too_long, unsynced_call}
use Rattle.marks_in_place.proofs.unsynced.Goals as goal

pub returns-then-too_long : goal.returns-then-too_long
unfolding unsynced_call too_long decide padded
returns-then-too_long c = simp (sym c.too_long.ensures ∙ c.if-too_long.true)

pub returns : goal.returns
unfolding unsynced_call too_long decide padded
returns c = simp (sym c.too_long.ensures ∙ c.if-too_long.false, c.count.ensures)
