use mathlib.Core.Path.{ap, ◌∙◌}
use Rattle.rules.specs.Types.{ReadAnswer}
use Rattle.rules.specs.Read.{read_call}
use Rattle.rules.specs.World.{read_given}
use Rattle.as_numbers.specs.Shown.{shown}
use Rattle.marble_c.proofs.marble_read.Goals as goal

pub returns : goal.returns
unfolding read_call
returns c = λ claims. c.read_shown-read.ensures ∙ ap (λ (a : ReadAnswer). shown 3 (read_given a)) (c.found.ensures claims)
