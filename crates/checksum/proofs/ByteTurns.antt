-- Bytes at once, and a turn of a loop over a list, and over a number's bytes.
use mathlib.Core.Path.{◌≡◌, sym, ap, ap₂, ◌∙◌}
use mathlib.Core.List.{List, [], ◌∷◌}
use Prim.Native.Nat.{ℕ, zero, suc, ◌+◌, ◌-◌, ◌*◌, ◌/◌, ◌%◌, ◌^◌, ◌<◌, ◌≤◌}
use native.Mathlib.Numerals.{add-one}
use native.Mathlib.Omega.{arith}
use lib.Bits.{bit_xor, xor_comm, xor_zero_r, xor_shifted}
use lib.ListN.{length, take, drop, get_or, take-append-drop}
use lib.Seq.{drop-cons, get_or-drop, take_all}
use Rattle.std.specs.List.{IsSplitAt}
use Rattle.numbers.specs.LittleEndian.{Bytes, le_bytes, le_value, le-bytes, le-cons, le-length, le-round}
use Rattle.checksum.specs.Checksum.{shifts, crc_from, crc-append, crc-cons, crc-nil}
use Rattle.checksum.proofs.Linear.{xor_assoc, shifts-xor, shifts-then, shifts-down}

-- a byte, and the number that the bytes behind it say
byte-beside : (r b v : ℕ) → b < 256 → bit_xor (bit_xor r b) (v * 2 ^ 8) ≡ bit_xor r (b + 256 * v)
byte-beside r b v h =
    let sum : v * 2 ^ 8 + b ≡ b + 256 * v = omega arith in
    xor_assoc r b (v * 2 ^ 8) ∙ ap (bit_xor r) (xor_comm b (v * 2 ^ 8) ∙ xor_shifted v 8 b h ∙ sum)

-- the register after k bytes: the number that they say is added, and as many bits go out
at_once : (k : ℕ) (s : List ℕ) (r : ℕ) → Bytes s → k ≤ length s → crc_from r (take k s) ≡ shifts (8 * k) (bit_xor r (le_value (take k s)))
unfolding le_value shifts
at_once zero s r h fit = crc-nil r ∙ sym (xor_zero_r r)
at_once (suc k) [] r h fit = absurd (omega arith)
at_once (suc k) (b ∷ s) r h fit =
    let v = le_value (take k s) in
    let x = bit_xor r b in
    let eight-more : 8 + 8 * k ≡ 8 * suc k = omega arith in
    crc-cons r b (take k s)
    ∙ at_once k s (shifts 8 x) (λ i. h (suc i)) (omega arith)
    ∙ ap (λ (y : ℕ). shifts (8 * k) (bit_xor (shifts 8 x) y)) (sym (shifts-down 8 v))
    ∙ ap (shifts (8 * k)) (sym (shifts-xor 8 x (v * 2 ^ 8)))
    ∙ sym (shifts-then 8 (8 * k) (bit_xor x (v * 2 ^ 8)))
    ∙ ap₂ shifts eight-more (byte-beside r b v (h 0))

-- the first k bytes of a list are taken off and read, and go out
pub bytes-turn : (k : ℕ) (s word more : List ℕ) (x v y : ℕ) → Bytes s → IsSplitAt s k word more → v ≡ le_value (take k word)
    → y ≡ shifts (8 * k) (bit_xor x v) → Bytes more × (crc_from y more ≡ crc_from x s)
bytes-turn k s word more x v y bytes (fit, front, behind, size, left) read out =
    let said : v ≡ le_value (take k s) = read ∙ ap le_value (take_all k word (omega arith) ∙ front) in (
      rw behind (λ i. rw (get_or-drop k s i 0) (bytes (k + i))),
      ap₂ crc_from (out ∙ ap (λ (n : ℕ). shifts (8 * k) (bit_xor x n)) said ∙ sym (at_once k s x bytes fit)) behind
          ∙ sym (crc-append x (take k s) (drop k s))
          ∙ ap (crc_from x) (take-append-drop k s),
    )

-- eight bytes of a number
pub eight-number : (r v : ℕ) → v < 2 ^ 64 → shifts 64 (bit_xor r v) ≡ crc_from r (le_bytes 8 v)
eight-number r v fit =
    let bs = le_bytes 8 v in
    let all : take 8 bs ≡ bs = take_all 8 bs (omega (arith, le-length 8 v)) in
    let said : le_value (take 8 bs) ≡ v = ap le_value all ∙ le-round 8 v (omega arith) in
    ap (λ (n : ℕ). shifts 64 (bit_xor r n)) (sym said)
    ∙ sym (at_once 8 bs r (le-bytes 8 v) (omega (arith, le-length 8 v)))
    ∙ ap (crc_from r) all

-- one byte of a list
pub list-turn : (s : List ℕ) (i x : ℕ) → i < length s → crc_from (shifts 8 (bit_xor x (get_or s i 0))) (drop (i + 1) s) ≡ crc_from x (drop i s)
list-turn s i x h = rw (add-one, drop-cons s i 0 h, crc-cons)

-- one byte of a number
pub number-turn : (n i v x : ℕ) → i < n → crc_from (shifts 8 (bit_xor x (v % 256))) (le_bytes (n - (i + 1)) (v / 256)) ≡ crc_from x (le_bytes (n - i) v)
number-turn n i v x h = rw (le-cons (n - i) (n - (i + 1)) v (omega arith), crc-cons)
