-- "a claim is set and cleared in place, slot by slot": that slot's, and no other.
use Rattle.std.specs.Prelude.{◌≡◌, refl, ◌⊎◌, ◌<◌, ◌-◌, ◌/◌, ◌%◌, ◌^◌}
use Rattle.std.proofs.Common.{sym, ap, ◌∙◌, inl, inr, arith, pow-suc, mul_comm, pow_pos, ne_eqb}
use Rattle.std.proofs.Math.Nat.{div-div-eq-div-mul, div-eq_of_lt}
use Rattle.std.specs.Int.Bits.{bit_or, bit_and, or_zero_r, and_zero_r}
use Rattle.std.proofs.lemmas.Nat.{or_shr, or_mod, and_shr, and_mod}
use Rattle.rules.specs.Base.{true, false, ℕ, zero, suc, eqb}
use Rattle.rules.specs.Types.{Claims}
use Rattle.rules.proofs.BaseLaws.{same?}
use Rattle.rules.specs.Claims.{word_of, with_word, is_claimed, claim_set, claim_cleared}
use Rattle.rules.specs.ClaimLaws.{bit_at}

bit-half : (n i : ℕ) → bit_at n (suc i) ≡ bit_at (n / 2) i
bit-half n i = ap (λ (k : ℕ). n / k % 2) (pow-suc 2 i ∙ mul_comm (2 ^ i) 2) ∙ ap (λ (k : ℕ). k % 2) (sym (div-div-eq-div-mul n 2 (2 ^ i)))

bit-zero : (i : ℕ) → bit_at 0 i ≡ 0
bit-zero i = rw (div-eq_of_lt (pow_pos i))

one_same : (i : ℕ) → bit_at (2 ^ i) i ≡ 1
one_same zero = refl
one_same (suc i) =
    let half : 2 ^ suc i / 2 ≡ 2 ^ i = omega (arith, pow-suc 2 i) in
    bit-half (2 ^ suc i) i ∙ ap (λ (n : ℕ). bit_at n i) half ∙ one_same i

one-other : (i j : ℕ) → (i ≡ j → ⊥) → bit_at (2 ^ j) i ≡ 0
one-other zero zero n = absurd (n refl)
one-other zero (suc j) n = omega (arith, pow-suc 2 j)
one-other (suc i) zero n = bit-half 1 i ∙ bit-zero i
one-other (suc i) (suc j) n =
    let half : 2 ^ suc j / 2 ≡ 2 ^ j = omega (arith, pow-suc 2 j) in
    bit-half (2 ^ suc j) i ∙ ap (λ (m : ℕ). bit_at m i) half ∙ one-other i j (λ e. n (ap suc e))

not-bit : (k i x : ℕ) → i < k → x < 2 ^ k → bit_at (2 ^ k - 1 - x) i ≡ 1 - bit_at x i
not-bit zero i x h low = absurd (omega arith)
not-bit (suc k) zero x h low = omega (arith, pow-suc 2 k)
not-bit (suc k) (suc i) x h low =
    let p = pow-suc 2 k in
    let half : (2 ^ suc k - 1 - x) / 2 ≡ 2 ^ k - 1 - x / 2 = omega arith in
    let less : x / 2 < 2 ^ k = omega arith in
    bit-half (2 ^ suc k - 1 - x) i ∙ ap (λ (n : ℕ). bit_at n i) half ∙ not-bit k i (x / 2) (omega arith) less ∙ ap (λ (n : ℕ). 1 - n) (sym (bit-half x i))

bit-or : (a b i : ℕ) → bit_at (bit_or a b) i ≡ bit_or (bit_at a i) (bit_at b i)
bit-or a b i = ap (λ (n : ℕ). n % 2) (or_shr a b i) ∙ or_mod (a / 2 ^ i) (b / 2 ^ i) 1

bit-and : (a b i : ℕ) → bit_at (bit_and a b) i ≡ bit_and (bit_at a i) (bit_at b i)
bit-and a b i = ap (λ (n : ℕ). n % 2) (and_shr a b i) ∙ and_mod (a / 2 ^ i) (b / 2 ^ i) 1

or-one : (n : ℕ) → n < 2 → bit_or n 1 ≡ 1
or-one zero h = refl
or-one (suc zero) h = refl
or-one (suc (suc n)) h = absurd (omega arith)

and_one : (n : ℕ) → n < 2 → bit_and n 1 ≡ n
and_one zero h = refl
and_one (suc zero) h = refl
and_one (suc (suc n)) h = absurd (omega arith)

set_same : (w i : ℕ) → bit_at (bit_or w (2 ^ i)) i ≡ 1
set_same w i = bit-or w (2 ^ i) i ∙ ap (bit_or (bit_at w i)) (one_same i) ∙ or-one (bit_at w i) (omega arith)

set_other : (w i j : ℕ) → (i ≡ j → ⊥) → bit_at (bit_or w (2 ^ j)) i ≡ bit_at w i
set_other w i j n = bit-or w (2 ^ j) i ∙ ap (bit_or (bit_at w i)) (one-other i j n) ∙ or_zero_r (bit_at w i)

one_below : (j k : ℕ) → j < k → 2 ^ j < 2 ^ k
one_below zero zero h = absurd (omega arith)
one_below zero (suc k) h = omega (arith, pow-suc 2 k, pow_pos k)
one_below (suc j) zero h = absurd (omega arith)
one_below (suc j) (suc k) h = omega (arith, pow-suc 2 j, pow-suc 2 k, one_below j k (omega arith))

clear-same : (w i : ℕ) → i < 64 → bit_at (bit_and w (2 ^ 64 - 1 - 2 ^ i)) i ≡ 0
clear-same w i h =
    bit-and w (2 ^ 64 - 1 - 2 ^ i) i
    ∙ ap (bit_and (bit_at w i)) (not-bit 64 i (2 ^ i) h (one_below i 64 h) ∙ ap (λ (n : ℕ). 1 - n) (one_same i))
    ∙ and_zero_r (bit_at w i)

clear-other : (w i j : ℕ) → i < 64 → j < 64 → (i ≡ j → ⊥) → bit_at (bit_and w (2 ^ 64 - 1 - 2 ^ j)) i ≡ bit_at w i
clear-other w i j h l n =
    bit-and w (2 ^ 64 - 1 - 2 ^ j) i
    ∙ ap (bit_and (bit_at w i)) (not-bit 64 i (2 ^ j) h (one_below j 64 l) ∙ ap (λ (m : ℕ). 1 - m) (one-other i j n))
    ∙ and_one (bit_at w i) (omega arith)

-- ---- words
word_same : (c : Claims) (k w : ℕ) → k < 4 → word_of (with_word c k w) k ≡ w
word_same c zero w h = refl
word_same c (suc zero) w h = refl
word_same c (suc (suc zero)) w h = refl
word_same c (suc (suc (suc zero))) w h = refl
word_same c (suc (suc (suc (suc k)))) w h = absurd (omega arith)

word-other : (c : Claims) (k w m : ℕ) → (m ≡ k → ⊥) → word_of (with_word c k w) m ≡ word_of c m
word-other c k w zero n = rw (ne_eqb k 0 (λ e. n (sym e)))
word-other c k w (suc zero) n = rw (ne_eqb k 1 (λ e. n (sym e)))
word-other c k w (suc (suc zero)) n = rw (ne_eqb k 2 (λ e. n (sym e)))
word-other c k w (suc (suc (suc zero))) n = rw (ne_eqb k 3 (λ e. n (sym e)))
word-other c k w (suc (suc (suc (suc m)))) n =
    let m4 = suc (suc (suc (suc m))) in
    rw (ne_eqb m4 0 (λ e. omega arith), ne_eqb m4 1 (λ e. omega arith), ne_eqb m4 2 (λ e. omega arith), ne_eqb m4 3 (λ e. omega arith))

-- another slot of the same word has another bit
apart : (s t : ℕ) → (t ≡ s → ⊥) → s / 64 ≡ t / 64 → t % 64 ≡ s % 64 → ⊥
apart s t n p q = n (omega arith)

-- ---- the claim record
-- a word that differs in the bit of slot s alone
others-stay : (c : Claims) (s t v : ℕ) → s < 256 → (t ≡ s → ⊥)
    → ((i : ℕ) → i < 64 → (i ≡ s % 64 → ⊥) → bit_at v i ≡ bit_at (word_of c (s / 64)) i)
    → bit_at (word_of (with_word c (s / 64) v) (t / 64)) (t % 64) ≡ bit_at (word_of c (t / 64)) (t % 64)
others-stay c s t v h n same = go (same? (t / 64) (s / 64))
  where
    go : (t / 64 ≡ s / 64) ⊎ (t / 64 ≡ s / 64 → ⊥) → bit_at (word_of (with_word c (s / 64) v) (t / 64)) (t % 64) ≡ bit_at (word_of c (t / 64)) (t % 64)
    go (inl e) = rw (e, word_same c (s / 64) v (omega arith)) (same (t % 64) (omega arith) (apart s t n (sym e)))
    go (inr d) = rw (word-other c (s / 64) v (t / 64) d)

-- a slot whose claim is set is claimed
pub claimed-set : (c : Claims) (s : ℕ) → s < 256 → is_claimed (claim_set c s) s ≡ true
unfolding is_claimed claim_set
claimed-set c s h = rw (word_same c (s / 64) (bit_or (word_of c (s / 64)) (2 ^ (s % 64))) (omega arith), set_same (word_of c (s / 64)) (s % 64))

-- and no other slot's claim changes
pub claimed-set-other : (c : Claims) (s t : ℕ) → s < 256 → (t ≡ s → ⊥) → is_claimed (claim_set c s) t ≡ is_claimed c t
unfolding is_claimed claim_set
claimed-set-other c s t h n =
    ap (λ (b : ℕ). eqb b 1) (others-stay c s t (bit_or (word_of c (s / 64)) (2 ^ (s % 64))) h n (λ i l m. set_other (word_of c (s / 64)) i (s % 64) m))

-- a slot whose claim is cleared is not claimed
pub claimed-cleared : (c : Claims) (s : ℕ) → s < 256 → is_claimed (claim_cleared c s) s ≡ false
unfolding is_claimed claim_cleared
claimed-cleared c s h = rw (word_same c (s / 64) (bit_and (word_of c (s / 64)) (2 ^ 64 - 1 - 2 ^ (s % 64))) (omega arith), clear-same (word_of c (s / 64)) (s % 64) (omega arith))

-- and no other slot's claim changes
pub claimed-cleared-other : (c : Claims) (s t : ℕ) → s < 256 → (t ≡ s → ⊥) → is_claimed (claim_cleared c s) t ≡ is_claimed c t
unfolding is_claimed claim_cleared
claimed-cleared-other c s t h n =
    ap (λ (b : ℕ). eqb b 1) (others-stay c s t (bit_and (word_of c (s / 64)) (2 ^ 64 - 1 - 2 ^ (s % 64))) h n (λ i l m. clear-other (word_of c (s / 64)) i (s % 64) l (omega arith) m))
