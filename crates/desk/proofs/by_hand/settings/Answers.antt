use mathlib.Core.Path.{ap, ◌∙◌}
use Rattle.desk.specs.Types.{Settings}
use Rattle.desk.specs.Desk.{done}
use Rattle.desk.specs.Commands.{with_settings}
use Rattle.desk.proofs.by_hand.settings.Goals as goal

pub returns : goal.returns
returns c =
    let a = c.args in
    c.done.ensures ∙ ap (λ (s : Settings). done (with_settings a.b s)) c.settings_of-given.ensures
