use mathlib.Core.Path.{ap₂, ◌∙◌}
use mathlib.Core.List.{List}
use Rattle.rules.specs.declared.Settings.{Settings}
use Rattle.rules.specs.declared.Record.{Record}
use Rattle.file_map.specs.Records.{state_by}
use Rattle.desk.proofs.no_state.Goals as goal

pub returns : goal.returns
returns c =
    c.state_of.ensures
    ∙ ap₂ (λ (s : Settings) (rs : List Record). state_by s 0 0 rs 0) c.no_settings.ensures c.no_files.ensures
