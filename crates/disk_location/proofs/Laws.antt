-- What the code's bit operations make: the batch bit, the delete mark, the shard number.
use mathlib.Core.Path.{◌≡◌, refl, ap, ap₂, ◌∙◌}
use Prim.Native.Nat.{ℕ, zero, suc, ◌+◌, ◌-◌, ◌*◌, ◌/◌, ◌%◌, ◌^◌, ◌<◌}
use native.Mathlib.Omega.{arith}
use native.Mathlib.Nat.{add_comm, add-suc, add-zero}
use lib.Bits.{bit_and, bit_or, and_block, and_mask, and_high, or_shifted, or_add_and}
use lib.Pow.{split, shr_mod, mod-mod-pow, shl_exact}
use lib.Dec.{lit<, lit≤}
use lib.Count.{count_leading_zeros}
use mathlib.Core.Bool.{Bool, true, false}
use mir.Val.{bool_byte}
use Rattle.disk_location.specs.Locations.{raw_of, masked_of, batch_of, digits_in}

-- bit 62 of a 64-bit number is cleared by the mask that has all bits but that
pub mask-clears : (x : ℕ) → x < 2 ^ 64 → bit_and x (2 ^ 64 - 1 - 2 ^ 62) ≡ masked_of x
unfolding masked_of
mask-clears x h =
    let blocks : bit_and (x / 2 ^ 63 * 2 ^ 63 + x % 2 ^ 63) (1 * 2 ^ 63 + (2 ^ 62 - 1))
    ≡ bit_and (x / 2 ^ 63) 1 * 2 ^ 63 + bit_and (x % 2 ^ 63) (2 ^ 62 - 1)
    = and_block 63 (x / 2 ^ 63) 1 (x % 2 ^ 63) (2 ^ 62 - 1) (omega arith) (lit< tt) in
    let whole : bit_and x (2 ^ 64 - 1 - 2 ^ 62) ≡ bit_and (x / 2 ^ 63) 1 * 2 ^ 63 + bit_and (x % 2 ^ 63) (2 ^ 62 - 1)
    = rw split at blocks in
    whole
    ∙ ap₂ (λ (a b : ℕ). a * 2 ^ 63 + b)
    (and_mask (x / 2 ^ 63) 1 ∙ shr_mod 1 63 h)
    (and_mask (x % 2 ^ 63) 62 ∙ mod-mod-pow x 1 62)
    ∙ add_comm _ _

-- and it is set by `or`
pub or-sets : (x : ℕ) → x < 2 ^ 64 → bit_or x (2 ^ 62) ≡ batch_of x
unfolding batch_of masked_of
or-sets x h =
    let there : bit_and x (2 ^ 62) ≡ x / 2 ^ 62 % 2 * 2 ^ 62 = and_high x 1 62 in
    let sum : bit_or x (2 ^ 62) + bit_and x (2 ^ 62) ≡ x + 2 ^ 62 = or_add_and x (2 ^ 62) in
    omega arith

-- the lowest bit is the remainder by 2
pub low_bit : (x : ℕ) → bit_and x 1 ≡ x % 2
low_bit x = and_mask x 1

-- a mark set in what was shifted by one
pub or-mark : (p : ℕ) (d : Bool) → bit_or (p * 2) (bool_byte d) ≡ raw_of p d
or-mark p true = or_shifted p 1 1 (lit< tt)
or-mark p false = or_shifted p 1 0 (lit< tt)

-- a shift by one doubles what is below 2^63
pub shl_one : (p : ℕ) → p < 2 ^ 63 → p * 2 % 2 ^ 64 ≡ p * 2
shl_one p h = shl_exact 63 1 64 h (lit≤ tt)

-- leading zeros and digits fill the width
pub leading-digits : (k x : ℕ) → count_leading_zeros k x + digits_in k x ≡ k
unfolding count_leading_zeros digits_in
leading-digits zero x = refl
leading-digits (suc k) zero = add-zero (suc k)
leading-digits (suc k) (suc n) = add-suc _ _ ∙ ap suc (leading-digits k (suc n / 2))
