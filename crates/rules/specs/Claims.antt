-- "Claim, release.": the claim record, in which slot s is bit s % 64 of word s / 64, and the two calls.
use Rattle.std.specs.Prelude.{◌||◌, ◌∷◌, ◌-◌, ◌/◌, ◌%◌, ◌^◌}
use Rattle.rules.specs.Base.{Bool, not, [], ℕ, leb, eqb, pick}
use Rattle.rules.specs.Types.{Claims, Limits, Claim}
use Rattle.std.specs.Int.Bits.{bit_or, bit_and}
use Rattle.rules.specs.Refusal.{◌gives◌, decide, after}
use Rattle.rules.specs.FileMap.{is_empty, record_at}
use Rattle.rules.specs.Condition1.{refused1}
use Rattle.rules.specs.World.{World, records_of, slots_of, accepted, After, unchanged}

-- "starts one without claims"
abbrev pub no_claims : Claims
no_claims = record { a = 0; b = 0; c = 0; d = 0 }

-- word k of the four
abbrev pub word_of : Claims → ℕ → ℕ
word_of c k = pick (eqb k 0) c.a (pick (eqb k 1) c.b (pick (eqb k 2) c.c (pick (eqb k 3) c.d 0)))

-- word k replaced
abbrev pub with_word : Claims → ℕ → ℕ → Claims
with_word c k w = record {
  a = pick (eqb k 0) w c.a;
  b = pick (eqb k 1) w c.b;
  c = pick (eqb k 2) w c.c;
  d = pick (eqb k 3) w c.d;
}

-- whether a slot is claimed
unfoldable pub is_claimed : Claims → ℕ → Bool
is_claimed c s = eqb (word_of c (s / 64) / 2 ^ (s % 64) % 2) 1

-- "a claim is set and cleared in place, slot by slot"
unfoldable pub claim_set : Claims → ℕ → Claims
claim_set c s = with_word c (s / 64) (bit_or (word_of c (s / 64)) (2 ^ (s % 64)))

-- ".. and cleared"
unfoldable pub claim_cleared : Claims → ℕ → Claims
claim_cleared c s = with_word c (s / 64) (bit_and (word_of c (s / 64)) (2 ^ 64 - 1 - 2 ^ (s % 64)))

-- another claim record, all else the same
abbrev pub with_claims : World → Claims → World
with_claims w claims = record { settings = w.settings; state = w.state; claims = claims; heap = w.heap; table = w.table }

-- "a slot out of range, an empty slot"
abbrev pub not_a_file : World → ℕ → Bool
not_a_file w slot = leb (slots_of w) slot || is_empty (record_at (records_of w) slot)

-- "21 for .. a claimed one (claim)"
unfoldable pub claim_call : World → ℕ → After
claim_call w slot =
    after (decide (refused1 w gives Limits ∷ (not_a_file w slot || is_claimed w.claims slot) gives Claim ∷ [])) (unchanged w)
    (record { answer = accepted []; world = with_claims w (claim_set w.claims slot) })

-- "or an unclaimed one (release)"
unfoldable pub release_call : World → ℕ → After
release_call w slot =
    after (decide (refused1 w gives Limits ∷ (not_a_file w slot || not (is_claimed w.claims slot)) gives Claim ∷ [])) (unchanged w)
    (record { answer = accepted []; world = with_claims w (claim_cleared w.claims slot) })
