use mathlib.Core.Path.{sym, ◌∙◌}
use Rattle.rules.specs.Sync.{marked}
use Rattle.record_marks.proofs.marked.Goals as goal

pub returns-then-is_unsynced : goal.returns-then-is_unsynced
unfolding marked
returns-then-is_unsynced c = simp (sym c.is_unsynced.ensures ∙ c.if-is_unsynced.true) c.recorded.ensures

pub returns : goal.returns
unfolding marked
returns c = simp (sym c.is_unsynced.ensures ∙ c.if-is_unsynced.false)
