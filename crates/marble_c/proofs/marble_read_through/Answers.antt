use mathlib.Core.Path.{ap, ◌∙◌}
use Rattle.as_numbers.specs.Shown.{shown}
use Rattle.through.specs.Answers.{ThroughAnswer}
use Rattle.through.specs.Through.{through_given, through_call}
use Rattle.marble_c.proofs.marble_read_through.Goals as goal

pub returns : goal.returns
unfolding through_call
returns c =
    λ claims. c.through_shown-number.ensures ∙ ap (λ (a : ThroughAnswer). shown 4 (through_given a)) (c.seen.ensures _ (c.found-stored.ensures claims))
