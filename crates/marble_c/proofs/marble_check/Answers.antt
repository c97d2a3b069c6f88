use mathlib.Core.Path.{ap, ◌∙◌}
use Rattle.faults.specs.Faults.{Checked}
use Rattle.as_numbers.specs.Shown.{shown}
use Rattle.marble_c.proofs.marble_check.Goals as goal

pub returns : goal.returns
returns c =
    let done = c.check in
    record {
      answers = c.count_shown-done.ensures.check ∙ ap (λ (x : Checked). shown 1 x.answer) done.ensures;
      lists = ap (λ (x : Checked). x.listing) done.ensures;
    }
