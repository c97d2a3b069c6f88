use mathlib.Core.Path.{refl, sym, ◌∙◌}
use Rattle.rules.specs.SlotFile.{view_in}
use Rattle.slot_file.proofs.slot.check.Goals as goal

pub returns-in-Vacant : goal.returns-in-Vacant
unfolding view_in
returns-in-Vacant c = rw (sym c.read.ensures ∙ c.in-Vacant.is) refl

pub returns-in-Wrong : goal.returns-in-Wrong
unfolding view_in
returns-in-Wrong c = rw (sym c.read.ensures ∙ c.in-Wrong.is) refl

pub returns-in-Five : goal.returns-in-Five
unfolding view_in
returns-in-Five c = rw (sym c.read.ensures ∙ c.in-Five.is) c.shown.ensures
