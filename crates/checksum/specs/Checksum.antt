-- The CRC-32 of IEEE 802.3: a shift register of 32 bits, low bit first, that starts and ends complemented.
use Rattle.std.specs.Prelude.{◌≡◌, refl, List, [], ◌∷◌, ◌++◌, Bool, true, false, ℕ, zero, suc, ◌+◌, ◌-◌, ◌*◌, ◌/◌, ◌%◌, ◌^◌, eqb, length}
use Rattle.std.proofs.Common.{ap, ◌∙◌}
use Rattle.std.specs.Int.Bits.{bit_xor}
use Rattle.numbers.specs.LittleEndian.{le_bytes}

-- x^32 + x^26 + x^23 + x^22 + x^16 + x^12 + x^11 + x^10 + x^8 + x^7 + x^5 + x^4 + x^2 + x + 1, low bit first
abbrev pub poly : ℕ
poly = 0xedb8_8320

abbrev pub minus : Bool → ℕ → ℕ
minus true r = bit_xor r poly
minus false r = r

-- one bit out: where it is 1, the polynomial is taken off
unfoldable pub shift_bit : ℕ → ℕ
shift_bit r = minus (eqb (r % 2) 1) (r / 2)

-- so many bits out
unfoldable pub shifts : ℕ → ℕ → ℕ
shifts zero r = r
shifts (suc k) r = shifts k (shift_bit r)

-- the register after the bytes, each added to its low end and shifted out
unfoldable pub crc_from : ℕ → List ℕ → ℕ
crc_from r [] = r
crc_from r (b ∷ bs) = crc_from (shifts 8 (bit_xor r b)) bs

-- the checksum of a list of bytes
unfoldable pub crc32 : List ℕ → ℕ
crc32 bs = 2 ^ 32 - 1 - crc_from (2 ^ 32 - 1) bs

-- "over length, id, body in that order"
unfoldable pub object_sum : ℕ → List ℕ → ℕ
object_sum id body = crc32 ((le_bytes 8 (length body) ++ le_bytes 8 id) ++ body)

-- k bits in the other order
unfoldable pub mirrored : ℕ → ℕ → ℕ
mirrored zero n = 0
mirrored (suc k) n = n % 2 * 2 ^ k + mirrored k (n / 2)

-- the polynomial is the standard's 0x04C11DB7, mirrored
pub poly-mirrored : mirrored 32 0x04c1_1db7 ≡ poly
unfolding mirrored
poly-mirrored = refl

-- the check value of every table of CRCs: "123456789"
pub check-value : crc32 (49 ∷ 50 ∷ 51 ∷ 52 ∷ 53 ∷ 54 ∷ 55 ∷ 56 ∷ 57 ∷ []) ≡ 0xcbf4_3926
unfolding crc32 crc_from shifts shift_bit
check-value = refl

-- streaming: after one part the register goes on where it stood
pub crc-append : (r : ℕ) (xs ys : List ℕ) → crc_from r (xs ++ ys) ≡ crc_from (crc_from r xs) ys
unfolding crc_from
crc-append r [] ys = refl
crc-append r (x ∷ xs) ys = crc-append (shifts 8 (bit_xor r x)) xs ys

-- the same over three parts, as an object has
pub crc-three : (r : ℕ) (xs ys zs : List ℕ) → crc_from r ((xs ++ ys) ++ zs) ≡ crc_from (crc_from (crc_from r xs) ys) zs
crc-three r xs ys zs = crc-append r (xs ++ ys) zs ∙ ap (λ (x : ℕ). crc_from x zs) (crc-append r xs ys)

-- the register after one byte more at the front
pub crc-cons : (r b : ℕ) (bs : List ℕ) → crc_from r (b ∷ bs) ≡ crc_from (shifts 8 (bit_xor r b)) bs
unfolding crc_from
crc-cons r b bs = refl

-- and after none
pub crc-nil : (r : ℕ) → crc_from r [] ≡ r
unfolding crc_from
crc-nil r = refl
