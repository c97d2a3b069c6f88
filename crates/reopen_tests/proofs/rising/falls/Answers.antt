use mathlib.Core.Path.{sym, ◌∙◌}
use Rattle.rules.specs.Trailer.{entries_in}
use Rattle.reopen_tests.specs.Ascending.{ascending-rises}
use Rattle.reopen_tests.proofs.rising.falls.Goals as goal

pub returns-then-ascending : goal.returns-then-ascending
returns-then-ascending c = sym (ascending-rises (entries_in c.args.trailer.now) (sym c.ascending.ensures ∙ c.if-ascending.true))
