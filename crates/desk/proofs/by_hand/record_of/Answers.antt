use mathlib.Core.Path.{ap, ◌∙◌}
use Rattle.rules.specs.declared.Label.{Label}
use Rattle.rules.specs.FileMap.{recorded}
use Rattle.desk.specs.Commands.{nth}
use Rattle.desk.proofs.by_hand.record_of.Goals as goal

pub returns : goal.returns
returns c =
    let n = c.args.n in
    c.recorded.ensures ∙ ap (λ (l : Label). recorded l (nth n 6) (nth n 7)) c.labelled-label.ensures
