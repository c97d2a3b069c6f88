use mathlib.Core.Path.{sym, ◌∙◌}
use Rattle.rebuild.proofs.counts.slot_record.Goals as goal

pub returns-then-no_file : goal.returns-then-no_file
returns-then-no_file c = rw (sym c.no_file.ensures ∙ c.if-no_file.true) c.empty.ensures

pub returns : goal.returns
returns c = rw (sym c.no_file.ensures ∙ c.if-no_file.false) c.recorded.ensures
