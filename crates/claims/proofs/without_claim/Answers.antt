use mathlib.Core.Path.{refl, ◌∙◌}
use Rattle.rules.specs.Claims.{claim_cleared}
use Rattle.claims.proofs.without_claim.Goals as goal

pub returns : goal.returns
unfolding claim_cleared
returns c = c.with_word.ensures ∙ rw (c.bit_of.ensures, c.word_of.ensures) refl
