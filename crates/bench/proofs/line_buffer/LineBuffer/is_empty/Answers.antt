use mathlib.Core.Path.{sym, ap, ◌∙◌}
use Rattle.bench.specs.Buffer.{is_blank}
use Rattle.bench.proofs.Feeding.{blank-empty}
use Rattle.bench.proofs.line_buffer.LineBuffer.is_empty.Goals as goal

pub returns-in-Some : goal.returns-in-Some
returns-in-Some c = c.is_empty.ensures ∙ blank-empty _ ∙ ap is_blank (sym c.in-Some.ensures)

pub returns-in-None : goal.returns-in-None
returns-in-None c = ap is_blank (sym c.in-None.ensures)
