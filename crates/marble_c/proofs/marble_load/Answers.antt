use mathlib.Core.Path.{ap, ◌∙◌}
use Rattle.rules.specs.TableCalls.{TableAfter}
use Rattle.as_numbers.specs.Shown.{shown}
use Rattle.marble_c.proofs.marble_load.Goals as goal

pub returns : goal.returns
returns c = c.load_shown-held.ensures ∙ ap (λ (e : TableAfter). shown 2 e.answer) c.load.ensures
