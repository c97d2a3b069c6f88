use mathlib.Core.Path.{sym, ◌∙◌}
use lib.ListN.{length}
use Rattle.bench.proofs.Feeding.{last_none, last_some}
use Rattle.bench.proofs.lines.finished.Goals as goal

pub returns-then-is_empty : goal.returns-then-is_empty
returns-then-is_empty g c = λ text e. last_none c.args.line.now.cap (length c.args.decoded.now) text c.args.line.now.line _ (sym c.is_empty.ensures ∙ c.if-is_empty.true) e

pub returns : goal.returns
returns g c =
    λ text e. last_some c.args.line.now.cap (length c.args.decoded.now) text c.args.line.now.line _ _ (sym c.is_empty.ensures ∙ c.if-is_empty.false) e (c.answered.ensures text e)
