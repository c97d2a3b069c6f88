use mathlib.Core.Path.{refl}
use Rattle.numbers.specs.Parts.{put_at}
use Rattle.plan_words.proofs.put_head.Goals as goal

pub returns : goal.returns
unfolding put_at
returns c = rw (c.copy_from_slice.ensures.after, c.foretold_number-refusal.ensures, c.foretold_generation-generation.ensures) refl
