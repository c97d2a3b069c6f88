use mathlib.Core.Path.{ap, ◌∙◌}
use Rattle.rules.specs.World.{After}
use Rattle.as_numbers.specs.Shown.{shown}
use Rattle.marble_c.proofs.marble_counts.Goals as goal

pub returns : goal.returns
returns c =
    λ claims. rw (c.put_counts.ensures, ← c.state_in.ensures) (c.counts_shown-done.ensures ∙ ap (λ (e : After). shown 4 e.answer) (c.counts.ensures claims))
