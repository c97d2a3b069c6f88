-- "a claim record of the host's" as four words.
use Rattle.std.specs.Prelude.{◌≡◌, refl, ◌∷◌}
use Rattle.std.proofs.Common.{sym, ap, ◌∙◌, arith}
use Rattle.rules.specs.Base.{List, [], ℕ, length, get_or}
use Rattle.rules.specs.declared.Claims.{Claims}

-- the claim record that four words hold
unfoldable pub claims_in : List ℕ → Claims
claims_in ws = record { a = get_or ws 0 0; b = get_or ws 1 0; c = get_or ws 2 0; d = get_or ws 3 0 }

-- and its words
abbrev pub claim_words : Claims → List ℕ
claim_words c = c.a ∷ c.b ∷ c.c ∷ c.d ∷ []

-- words, claim record, the same words
pub claims-back : (ws : List ℕ) → length ws ≡ 4 → claim_words (claims_in ws) ≡ ws
unfolding claims_in
claims-back [] e = absurd (omega (arith, e))
claims-back (a ∷ []) e = absurd (omega (arith, e))
claims-back (a ∷ b ∷ []) e = absurd (omega (arith, e))
claims-back (a ∷ b ∷ c ∷ []) e = absurd (omega (arith, e))
claims-back (a ∷ b ∷ c ∷ d ∷ []) e = refl
claims-back (a ∷ b ∷ c ∷ d ∷ f ∷ ws) e = absurd (omega (arith, e))

-- so a contract that settles the claim record settles every word
pub claims-one : (ws vs : List ℕ) → length ws ≡ 4 → length vs ≡ 4 → claims_in ws ≡ claims_in vs → ws ≡ vs
claims-one ws vs p q e = sym (claims-back ws p) ∙ ap claim_words e ∙ claims-back vs q
