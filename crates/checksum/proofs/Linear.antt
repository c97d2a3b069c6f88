-- The shift register is linear: each half byte goes out by itself, and what stands above comes down. The tables' steps rest on it.
use mathlib.Core.Path.{◌≡◌, refl, sym, ap, ap₂, ◌∙◌}
use Prim.Native.Nat.{ℕ, zero, suc, ◌+◌, ◌*◌, ◌/◌, ◌%◌, ◌^◌, ◌<◌}
use native.Mathlib.Omega.{arith}
use native.Mathlib.Nat.{mod-lt, pow-suc, mul_assoc, mul-one, zero-add, suc-add}
use lib.Pow.{split, pow_pos, shr-shr}
use lib.Arith.{bin_ind}
use lib.Bits.{bit_xor, differ, xor_step, xor_zero_l, xor_comm, xor_shr, xor_shifted}
use lib.Dec.{eqb, lit<}
use Rattle.checksum.specs.Checksum.{minus, poly, shift_bit, shifts}

-- the bit that says whether two bits differ
differ-lt : (x y : ℕ) → x < 2 → y < 2 → differ x y < 2
differ-lt zero y h k = k
differ-lt (suc x) zero h k = h
differ-lt (suc zero) (suc zero) h k = lit< tt
differ-lt (suc zero) (suc (suc y)) h k = absurd (omega arith)
differ-lt (suc (suc x)) (suc y) h k = absurd (omega arith)

differ-assoc : (x y z : ℕ) → x < 2 → y < 2 → z < 2 → differ (differ x y) z ≡ differ x (differ y z)
differ-assoc zero y z h k l = refl
differ-assoc (suc (suc x)) y z h k l = absurd (omega arith)
differ-assoc (suc zero) zero z h k l = refl
differ-assoc (suc zero) (suc (suc y)) z h k l = absurd (omega arith)
differ-assoc (suc zero) (suc zero) zero h k l = refl
differ-assoc (suc zero) (suc zero) (suc zero) h k l = refl
differ-assoc (suc zero) (suc zero) (suc (suc z)) h k l = absurd (omega arith)

-- `xor` bit by bit: the rest ..
half-xor : (a b : ℕ) → bit_xor a b / 2 ≡ bit_xor (a / 2) (b / 2)
half-xor a b = xor_shr a b 1

-- .. and the lowest bit
odd-xor : (a b : ℕ) → bit_xor a b % 2 ≡ differ (a % 2) (b % 2)
odd-xor a b = rw (xor_step a b) (low (bit_xor (a / 2) (b / 2)) (differ-lt (a % 2) (b % 2) (mod-lt a (lit< tt)) (mod-lt b (lit< tt))))
  where
    low : (q : ℕ) {d : ℕ} → d < 2 → (q * 2 + d) % 2 ≡ d
    low q h = omega arith

-- `xor` is associative
pub xor_assoc : (a b c : ℕ) → bit_xor (bit_xor a b) c ≡ bit_xor a (bit_xor b c)
xor_assoc a = bin_ind (λ (n : ℕ). (b c : ℕ) → bit_xor (bit_xor n b) c ≡ bit_xor n (bit_xor b c))
    (λ b c. rw (xor_zero_l b, xor_zero_l (bit_xor b c)) refl)
    (λ n ih b c.
    xor_step (bit_xor n b) c
    ∙ ap₂ (λ (q d : ℕ). q * 2 + d)
    (ap (λ (x : ℕ). bit_xor x (c / 2)) (half-xor n b) ∙ ih (b / 2) (c / 2) ∙ ap (bit_xor (n / 2)) (sym (half-xor b c)))
    (ap (λ (x : ℕ). differ x (c % 2)) (odd-xor n b)
    ∙ differ-assoc (n % 2) (b % 2) (c % 2) (mod-lt n (lit< tt)) (mod-lt b (lit< tt)) (mod-lt c (lit< tt))
    ∙ ap (differ (n % 2)) (sym (odd-xor b c)))
    ∙ sym (xor_step n (bit_xor b c)))
    a

-- what two tests take off, and both together
minus-xor : (p q a b : ℕ) → p < 2 → q < 2 → minus (eqb (differ p q) 1) (bit_xor a b) ≡ bit_xor (minus (eqb p 1) a) (minus (eqb q 1) b)
minus-xor zero zero a b h k = refl
minus-xor zero (suc zero) a b h k = xor_assoc a b poly
minus-xor (suc zero) zero a b h k = xor_assoc a b poly ∙ ap (bit_xor a) (xor_comm b poly) ∙ sym (xor_assoc a poly b)
minus-xor (suc zero) (suc zero) a b h k =
    let none : bit_xor poly (bit_xor b poly) ≡ b = ap (bit_xor poly) (xor_comm b poly) ∙ sym (xor_assoc poly poly b) ∙ xor_zero_l b in
    sym (xor_assoc a poly (bit_xor b poly) ∙ ap (bit_xor a) none)
minus-xor zero (suc (suc q)) a b h k = absurd (omega arith)
minus-xor (suc zero) (suc (suc q)) a b h k = absurd (omega arith)
minus-xor (suc (suc p)) q a b h k = absurd (omega arith)

-- a shift of two registers together is that of each
shift-xor : (a b : ℕ) → shift_bit (bit_xor a b) ≡ bit_xor (shift_bit a) (shift_bit b)
unfolding shift_bit
shift-xor a b =
    ap₂ (λ (p q : ℕ). minus (eqb p 1) q) (odd-xor a b) (half-xor a b)
    ∙ minus-xor (a % 2) (b % 2) (a / 2) (b / 2) (mod-lt a (lit< tt)) (mod-lt b (lit< tt))

-- the same of k shifts
pub shifts-xor : (k a b : ℕ) → shifts k (bit_xor a b) ≡ bit_xor (shifts k a) (shifts k b)
unfolding shifts
shifts-xor zero a b = refl
shifts-xor (suc k) a b = ap (shifts k) (shift-xor a b) ∙ shifts-xor k (shift_bit a) (shift_bit b)

-- shifts and then shifts
pub shifts-then : (j k a : ℕ) → shifts (j + k) a ≡ shifts k (shifts j a)
unfolding shifts
shifts-then zero k a = ap (λ (n : ℕ). shifts n a) (zero-add k)
shifts-then (suc j) k a = ap (λ (n : ℕ). shifts n a) (suc-add j k) ∙ shifts-then j k (shift_bit a)

-- what stands above the bits that go out comes down
shift-even : (y : ℕ) → shift_bit (y * 2) ≡ y
unfolding shift_bit
shift-even y =
    let even : y * 2 % 2 ≡ 0 = omega arith in
    let halved : y * 2 / 2 ≡ y = omega arith in
    rw (even, halved) refl

pub shifts-down : (k y : ℕ) → shifts k (y * 2 ^ k) ≡ y
unfolding shifts
shifts-down zero y = mul-one y
shifts-down (suc k) y =
    let double : y * 2 ^ suc k ≡ y * 2 ^ k * 2 = ap (λ (p : ℕ). y * p) (pow-suc 2 k) ∙ sym (mul_assoc y (2 ^ k) 2) in
    ap (λ (x : ℕ). shifts k (shift_bit x)) double ∙ ap (shifts k) (shift-even (y * 2 ^ k)) ∙ shifts-down k y

-- the lowest j bits go out, and what stands above them comes down
part_out : (j k w : ℕ) → shifts (j + k) w ≡ bit_xor (shifts (j + k) (w % 2 ^ j)) (shifts k (w / 2 ^ j))
part_out j k w =
    let low = w % 2 ^ j in
    let high = w / 2 ^ j * 2 ^ j in
    let apart : w ≡ bit_xor low high = sym (split w j) ∙ sym (xor_shifted (w / 2 ^ j) j low (mod-lt w (pow_pos j))) ∙ xor_comm high low in
    ap (shifts (j + k)) apart
    ∙ shifts-xor (j + k) low high
    ∙ ap (bit_xor (shifts (j + k) low)) (shifts-then j k high ∙ ap (shifts k) (shifts-down j (w / 2 ^ j)))

-- the next half byte of w, from bit i on, beside what those before it made
half_out : (x w i k : ℕ) → bit_xor x (shifts (4 + k) (w / 2 ^ i)) ≡ bit_xor (bit_xor x (shifts (4 + k) (w / 2 ^ i % 16))) (shifts k (w / 2 ^ (i + 4)))
half_out x w i k =
    let half = shifts (4 + k) (w / 2 ^ i % 16) in
    ap (bit_xor x) (part_out 4 k (w / 2 ^ i))
    ∙ sym (xor_assoc x half (shifts k (w / 2 ^ i / 16)))
    ∙ ap (λ (q : ℕ). bit_xor (bit_xor x half) (shifts k q)) (shr-shr w i 4)

-- x and the n next half bytes of w, from bit i on, each as it goes out, and what stands above them
abbrev pub halves : ℕ → ℕ → ℕ → ℕ → ℕ
halves zero x w i = bit_xor x (w / 2 ^ i)
halves (suc n) x w i = halves n (bit_xor x (shifts (4 + 4 * n) (w / 2 ^ i % 16))) w (i + 4)

halves-on : (n x w i : ℕ) → halves n x w i ≡ bit_xor x (shifts (4 * n) (w / 2 ^ i))
unfolding shifts
halves-on zero x w i = refl
halves-on (suc n) x w i =
    let four-more : 4 + 4 * n ≡ 4 * suc n = omega arith in
    halves-on n (bit_xor x (shifts (4 + 4 * n) (w / 2 ^ i % 16))) w (i + 4)
    ∙ sym (half_out x w i (4 * n))
    ∙ ap (λ (m : ℕ). bit_xor x (shifts m (w / 2 ^ i))) four-more

-- all bits out, by half bytes: a table's entry for each
pub halves-out : (n w : ℕ) → halves n (shifts (4 + 4 * n) (w % 16)) w 4 ≡ shifts (4 + 4 * n) w
halves-out n w = halves-on n (shifts (4 + 4 * n) (w % 16)) w 4 ∙ sym (part_out 4 (4 * n) w)
