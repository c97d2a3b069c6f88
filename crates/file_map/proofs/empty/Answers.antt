use mathlib.Core.Path.{ap, ◌∙◌}
use Rattle.rules.specs.declared.Label.{Label}
use Rattle.rules.specs.FileMap.{recorded}
use Rattle.file_map.proofs.empty.Goals as goal

pub returns : goal.returns
returns c = c.recorded.ensures ∙ ap (λ (l : Label). recorded l 0 0) c.before.«no_label».ensures
