use mathlib.Core.Path.{sym, ap, ◌∙◌}
use Rattle.rules.specs.World.{answer_given}
use Rattle.as_numbers.specs.Numbered.{numbered}
use Rattle.as_numbers.proofs.answers.number.Goals as goal

pub returns-in-Err : goal.returns-in-Err
returns-in-Err c = ap numbered c.refusal_number.ensures ∙ sym (ap answer_given c.in-Err.is)
