use mathlib.Core.Path.{refl}
use Rattle.as_numbers.specs.ClaimWords.{claims_in}
use Rattle.as_numbers.proofs.claim_words.put_claims.Goals as goal

pub returns : goal.returns
unfolding claims_in
returns c = rw c.put_four.ensures refl
