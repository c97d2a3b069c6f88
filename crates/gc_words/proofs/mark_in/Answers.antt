use mathlib.Core.Path.{refl}
use Rattle.as_numbers.specs.StateWords.{state_in}
use Rattle.gc_words.proofs.mark_in.Goals as goal

pub returns : goal.returns
unfolding state_in
returns c = refl
