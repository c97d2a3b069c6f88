use mathlib.Core.Path.{refl}
use Rattle.as_numbers.specs.StateWords.{settings_in}
use Rattle.as_numbers.proofs.state_words.settings_in.Goals as goal

pub returns : goal.returns
unfolding settings_in
returns c = refl
