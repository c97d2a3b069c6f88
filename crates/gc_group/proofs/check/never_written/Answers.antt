use mathlib.Core.Path.{sym, ap, ◌∙◌}
use Rattle.rules.specs.Table.{never_written}
use Rattle.gc_group.proofs.check.never_written.Goals as goal

pub returns-in-At : goal.returns-in-At
returns-in-At c = ap never_written (sym c.in-At.is ∙ c.load.ensures)

pub returns-in-DeletedAt : goal.returns-in-DeletedAt
returns-in-DeletedAt c = ap never_written (sym c.in-DeletedAt.is ∙ c.load.ensures)

pub returns-in-Never : goal.returns-in-Never
returns-in-Never c = ap never_written (sym c.in-Never.is ∙ c.load.ensures)
