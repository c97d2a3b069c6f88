use mathlib.Core.Path.{refl}
use Rattle.as_numbers.specs.ClaimWords.{claims_in}
use Rattle.as_numbers.proofs.claim_words.claims_in.Goals as goal

pub returns : goal.returns
unfolding claims_in
returns c = refl
