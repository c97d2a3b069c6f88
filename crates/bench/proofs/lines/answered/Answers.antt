use mathlib.Core.Path.{sym, ◌∙◌}
use lib.ListN.{length}
use Rattle.bench.proofs.Answers.{lost, kept}
use Rattle.bench.proofs.lines.answered.Goals as goal

pub returns-in-None : goal.returns-in-None
returns-in-None g c = λ text e. lost c.args.line.now.cap (length c.args.decoded.now) text _ (sym c.in-None.ensures ∙ e)

pub returns-in-Some : goal.returns-in-Some
returns-in-Some g c = λ text e. kept c.args.line.now.cap (length c.args.decoded.now) text _ _ _ (sym c.in-Some.ensures ∙ e) c.after_line-said.ensures.runs
