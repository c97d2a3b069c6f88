-- What the definitions of positions amount to.
use Rattle.std.specs.Prelude.{◌≡◌, Bool, true, false, ℕ, zero, suc, ◌+◌, ◌/◌, ◌%◌, ◌^◌, ◌<◌, ◌≤◌, None, Some}
use Rattle.std.proofs.Common.{sym, ap, ◌∙◌, arith, pow-suc, lt-ltb, le-ltb, eq-eqb, ne_eqb, lit<}
use Rattle.disk_location.specs.Locations.{masked_of, batch_of, position_of, delete_of, raw_of, located_at, relative_at, digits_in}

-- a position is read back from its raw location
pub position-raw : (p : ℕ) (d : Bool) → position_of (raw_of p d) ≡ p
position-raw p true = omega arith
position-raw p false = omega arith

-- and so is the delete mark
pub delete-raw : (p : ℕ) (d : Bool) → delete_of (raw_of p d) ≡ d
delete-raw p true = eq-eqb (raw_of p true % 2) 1 (omega arith)
delete-raw p false = ne_eqb (raw_of p false % 2) 1 (λ e. omega arith)

-- a raw location says one position and one mark only
pub raw-injective : (p q : ℕ) (d e : Bool) → raw_of p d ≡ raw_of q e → (p ≡ q) × (d ≡ e)
raw-injective p q d e h = (
  sym (position-raw p d) ∙ ap position_of h ∙ position-raw q e,
  sym (delete-raw p d) ∙ ap delete_of h ∙ delete-raw q e,
)

-- raw locations are ordered as their positions are, whatever the marks
pub raw-order : (p q : ℕ) (d e : Bool) → p < q → raw_of p d < raw_of q e
raw-order p q true true h = omega arith
raw-order p q true false h = omega arith
raw-order p q false true h = omega arith
raw-order p q false false h = omega arith

-- 20 exactly where the position is 2^63 or more or the raw location 0, else the location: absolute ..
pub located-large : (p : ℕ) (d : Bool) → 2 ^ 63 ≤ p → located_at p d ≡ None
located-large p d h = rw (le-ltb p (2 ^ 63) h)

pub located-none : (p : ℕ) (d : Bool) → p < 2 ^ 63 → raw_of p d ≡ 0 → located_at p d ≡ None
located-none p d h z = rw (lt-ltb p (2 ^ 63) h, eq-eqb (raw_of p d) 0 z)

pub located-at : (p : ℕ) (d : Bool) → p < 2 ^ 63 → (raw_of p d ≡ 0 → ⊥) → located_at p d ≡ Some (record { 0 = raw_of p d })
located-at p d h some = rw (lt-ltb p (2 ^ 63) h, ne_eqb (raw_of p d) 0 some)

-- .. and relative, where raw 0 is fine
pub relative-large : (p : ℕ) (d : Bool) → 2 ^ 63 ≤ p → relative_at p d ≡ None
relative-large p d h = rw (le-ltb p (2 ^ 63) h)

pub relative-at : (p : ℕ) (d : Bool) → p < 2 ^ 63 → relative_at p d ≡ Some (record { 0 = raw_of p d })
relative-at p d h = rw (lt-ltb p (2 ^ 63) h)

-- a position below 2^62 is what is left when the batch bit is cleared: where it was not there ..
pub masked_plain : (x : ℕ) → x < 2 ^ 62 → masked_of x ≡ x
unfolding masked_of
masked_plain x h = omega arith

-- .. and where it was
pub masked-batch : (x : ℕ) → x < 2 ^ 62 → masked_of (x + 2 ^ 62) ≡ x
unfolding masked_of
masked-batch x h = omega arith

-- a masked position above 0 is one of an lsn above 0
pub masked-pos : (n : ℕ) → 0 < masked_of n → 0 < n
unfolding masked_of
masked-pos n h = omega arith

-- with the bit a position below 2^62 is that much greater
pub batch-plain : (x : ℕ) → x < 2 ^ 62 → batch_of x ≡ x + 2 ^ 62
unfolding batch_of
batch-plain x h = ap (λ (m : ℕ). m + 2 ^ 62) (masked_plain x h)

-- the bit set and cleared again leaves what clearing it left before
pub batch-masked : (x : ℕ) → masked_of (batch_of x) ≡ masked_of x
unfolding batch_of masked_of
batch-masked x = omega arith

-- x has its digits ..
pub digits-hold : (k x : ℕ) → x < 2 ^ k → x < 2 ^ digits_in k x
unfolding digits_in
digits-hold zero x h = h
digits-hold (suc k) zero h = lit< tt
digits-hold (suc k) (suc n) h =
    omega (arith, pow-suc 2 (digits_in k (suc n / 2)), digits-hold k (suc n / 2) (omega (arith, pow-suc 2 k)))

-- .. and no fewer bits hold it
pub digits-least : (k x j : ℕ) → x < 2 ^ j → digits_in k x ≤ j
unfolding digits_in
digits-least zero x j h = omega arith
digits-least (suc k) zero j h = omega arith
digits-least (suc k) (suc n) zero h = absurd (omega arith)
digits-least (suc k) (suc n) (suc j) h =
    omega (arith, digits-least k (suc n / 2) j (omega (arith, pow-suc 2 j)))
