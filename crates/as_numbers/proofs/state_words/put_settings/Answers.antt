use mathlib.Core.Path.{refl}
use Rattle.numbers.specs.Parts.{put_at}
use Rattle.as_numbers.specs.StateWords.{settings_words}
use Rattle.as_numbers.proofs.state_words.put_settings.Goals as goal

pub returns : goal.returns
unfolding put_at settings_words
returns c = rw c.copy_from_slice.ensures.after refl
