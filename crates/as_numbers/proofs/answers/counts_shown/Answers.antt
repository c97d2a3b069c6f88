use mathlib.Core.Path.{sym, ap, ap₂, ◌∙◌}
use Rattle.rules.specs.Base.{padded}
use Rattle.rules.specs.Types.{CountsAnswer}
use Rattle.rules.specs.World.{counts_given}
use Rattle.as_numbers.specs.Shown.{given, shown}
use Rattle.as_numbers.proofs.answers.counts_shown.Goals as goal

pub returns-in-Ok : goal.returns-in-Ok
unfolding padded
returns-in-Ok c = ap (λ (x : CountsAnswer). shown 4 (counts_given x)) (sym c.in-Ok.is)

pub returns-in-Err : goal.returns-in-Err
unfolding padded
returns-in-Err c = ap₂ given c.refusal_number.ensures c.no_counts.ensures ∙ ap (λ (x : CountsAnswer). shown 4 (counts_given x)) (sym c.in-Err.is)
