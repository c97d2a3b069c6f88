use mathlib.Core.Path.{ap, ◌∙◌}
use Rattle.desk.specs.Types.{Settings}
use Rattle.desk.specs.Desk.{done}
use Rattle.desk.specs.Commands.{nth, with_state}
use Rattle.desk.proofs.by_hand.state.Goals as goal

pub returns : goal.returns
returns c =
    let a = c.args in
    c.done.ensures
    ∙ ap (λ (s : Settings). done (with_state a.b (record { settings = s; heap_len = nth a.n 6; table_len = nth a.n 7; files = a.b.state.files; next_position = nth a.n 8 })))
    c.settings_of-given.ensures
