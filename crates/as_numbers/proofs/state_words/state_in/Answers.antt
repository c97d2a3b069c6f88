use Rattle.as_numbers.specs.StateWords.{state_in}
use mathlib.Core.Path.{ap}
use Rattle.rules.specs.declared.FileMap.{FileMap}
use Rattle.as_numbers.proofs.state_words.state_in.Goals as goal

pub returns : goal.returns
unfolding state_in
returns c =
    rw (← c.settings_in-settings.ensures, ← ap (λ (m : FileMap). m.records) c.files_in-files.ensures) c.state_of.ensures
