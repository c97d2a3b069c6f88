-- A turn of `decode`'s loop, and its ends.
use Rattle.std.specs.Prelude.{None, Some}
use mathlib.Core.Path.{◌≡◌, refl, sym, ap, ap₂, ◌∙◌}
use mathlib.Core.List.{List, [], ◌∷◌}
use mathlib.Core.Logic.{⊎_elim}
use Prim.Native.Nat.{ℕ, zero, suc, ◌+◌, ◌-◌, ◌*◌, ◌%◌, ◌^◌, ◌<◌, ◌≤◌}
use native.Mathlib.Omega.{arith}
use native.Mathlib.Nat.{add-mul, mul_assoc, mul_comm, mul-one, mul-le-mul_right, lt_of_lt_of_le, mod-eq_of_lt}
use native.Mathlib.Numerals.{add-one}
use borrow.Author.Tests.{lt-ltb, le-ltb}
use lib.ListN.{length, drop, get_or, drop_of_length-le}
use lib.Pow.{pow-add, pow_mono, shl_lt}
use lib.Seq.{drop-cons}
use Rattle.numbers.specs.Groups.{Groups, said, bad, before, read_groups, bounded, number_in}
use Rattle.numbers.specs.GroupLaws.{either_way, read-last, read_more}

-- k groups that say v, then what the groups behind them say, where 1 counts p
abbrev after : ℕ → ℕ → ℕ → Groups → Groups
after zero v p g = g
after (suc k) v p bad = bad
after (suc k) v p (said zero n) = bad
after (suc k) v p (said (suc w) n) = said (v + suc w * p) (suc k + n)

-- before the first group nothing is said, and 1 counts 1
abbrev Begins : ℕ → ℕ → ℕ → Type 0
Begins k v p = k ≡ 0 → (v ≡ 0) × (p ≡ 1)

after-bad : (k v p : ℕ) → after k v p bad ≡ bad
after-bad zero v p = refl
after-bad (suc k) v p = refl

after-some : (k v p w n : ℕ) → Begins k v p → (0 < k → 0 < w) → after k v p (said w n) ≡ said (v + w * p) (k + n)
after-some zero v p w n h some =
    let start = h refl in
    let one : w * p ≡ w = ap (λ (q : ℕ). w * q) start.1 ∙ mul-one w in
    ap₂ said (omega arith) (omega arith)
after-some (suc k) v p zero n h some = absurd (let z = some (omega arith) in omega arith)
after-some (suc k) v p (suc w) n h some = refl

after-padded : (k v p n : ℕ) → 0 < k → after k v p (said 0 n) ≡ bad
after-padded zero v p n some = absurd (omega arith)
after-padded (suc k) v p n some = refl

scaled : (a w p : ℕ) → (a + 128 * w) * p ≡ a * p + w * (p * 128)
scaled a w p =
    add-mul a (128 * w) p
    ∙ ap (λ (x : ℕ). a * p + x) (ap (λ (y : ℕ). y * p) (mul_comm 128 w) ∙ mul_assoc w 128 p ∙ ap (λ (y : ℕ). w * y) (mul_comm 128 p))

-- one group more
after_more : (k v p b : ℕ) (g : Groups) → Begins k v p → after k v p (before b g) ≡ after (suc k) (v + (b - 128) * p) (p * 128) g
after_more k v p b bad h = after-bad k v p
after_more k v p b (said zero n) h = after-bad k v p
after_more k v p b (said (suc w) n) h =
    let some : 0 < b - 128 + 128 * suc w = omega arith in
    after-some k v p (b - 128 + 128 * suc w) (suc n) h (λ q. some)
    ∙ ap₂ said (omega (arith, scaled (b - 128) (suc w) p)) (omega arith)

-- the groups from `at` to i say v, have their top bits set and are fewer than ten; the next one counts from bit `shift` on
pub record Reading (s : List ℕ) (at v shift i : ℕ) : Type 0 where
  pub count : ℕ
  pub place : at + count ≡ i
  pub bits : shift ≡ 7 * count
  pub room : count < 10
  pub small : v < 2 ^ shift
  pub whole : number_in 10 s at ≡ bounded at (after count v (2 ^ shift) (read_groups (10 - count) (drop i s)))

-- no group is read yet
pub begin : (s : List ℕ) (at : ℕ) → Reading s at 0 0 at
unfolding number_in
begin s at = record { count = 0; place = omega arith; bits = omega arith; room = omega arith; small = omega arith; whole = refl }

-- n, shifted, is added to v, and nothing is lost
pub record Shifted (v n shift : ℕ) : Type 0 where
  pub exact : n * 2 ^ shift % 2 ^ 64 ≡ n * 2 ^ shift
  pub fits : v + n * 2 ^ shift < 2 ^ 64

-- no group is left to read
read_none : (k : ℕ) (bs : List ℕ) → k ≡ 0 → read_groups k bs ≡ bad
unfolding read_groups
read_none k bs e = rw e

-- at the end of the list there is no group
read-end : (k : ℕ) → read_groups k [] ≡ bad
unfolding read_groups
read-end zero = refl
read-end (suc k) = refl

module _ {s : List ℕ} {at v shift i : ℕ} (r : Reading s at v shift i) where
  begins : Begins r.count v (2 ^ shift)
  begins z =
      let none : shift ≡ 0 = omega arith in
      let one : 2 ^ shift ≡ 1 = ap (λ (n : ℕ). 2 ^ n) none in
      (omega arith, one)

  -- seven bits more, from bit `shift` on
  pub seven : (n : ℕ) → n < 128 → (shift ≡ 63 → ⊥) → Shifted v n shift
  seven n l room =
      let most : 7 + shift ≤ 63 = omega arith in
      let less : n * 2 ^ shift < 2 ^ 63 = lt_of_lt_of_le (shl_lt 7 shift l) (pow_mono most) in
      let below : 2 ^ shift ≤ 2 ^ 63 = pow_mono {i = shift} {j = 63} (omega arith) in
      record { exact = mod-eq_of_lt (omega arith); fits = omega arith }

  -- the list ends before the last group
  pub cut_short : length s ≤ i → None ≡ number_in 10 s at
  cut_short h =
      sym (r.whole ∙ ap (λ (l : List ℕ). bounded at (after r.count v (2 ^ shift) (read_groups (10 - r.count) l))) (drop_of_length-le s h)
      ∙ ap (λ (g : Groups). bounded at (after r.count v (2 ^ shift) g)) (read-end (10 - r.count)) ∙ ap (bounded at) (after-bad r.count v (2 ^ shift)))

module _ {s : List ℕ} {at v shift i : ℕ} (r : Reading s at v shift i) (h : i < length s) where
  -- what the next group and those behind it say
  opened : read_groups (10 - r.count) (drop i s) ≡ read_groups (suc (9 - r.count)) (get_or s i 0 ∷ drop (i + 1) s)
  opened =
      let more : 10 - r.count ≡ suc (9 - r.count) = omega arith in
      rw (more, add-one, drop-cons s i 0 h) refl

  with-last : get_or s i 0 < 128 → number_in 10 s at ≡ bounded at (after r.count v (2 ^ shift) (said (get_or s i 0) 1))
  with-last l =
      r.whole ∙ ap (λ (g : Groups). bounded at (after r.count v (2 ^ shift) g)) (opened ∙ read-last (9 - r.count) (get_or s i 0) (drop (i + 1) s) l)

  with-more : 128 ≤ get_or s i 0
      → number_in 10 s at ≡ bounded at (after r.count v (2 ^ shift) (before (get_or s i 0) (read_groups (9 - r.count) (drop (i + 1) s))))
  with-more m =
      r.whole ∙ ap (λ (g : Groups). bounded at (after r.count v (2 ^ shift) g)) (opened ∙ read_more (9 - r.count) (get_or s i 0) (drop (i + 1) s) m)

  ended : get_or s i 0 < 128 → (0 < shift → 0 < get_or s i 0) → v + get_or s i 0 * 2 ^ shift < 2 ^ 64
      → Some (v + get_or s i 0 * 2 ^ shift, i + 1) ≡ number_in 10 s at
  ended l some fits =
      let next : i + 1 ≡ at + (r.count + 1) = omega arith in
      sym
      (with-last l
      ∙ ap (bounded at) (after-some r.count v (2 ^ shift) (get_or s i 0) 1 (begins r) (λ q. some (omega arith)))
      ∙ rw (lt-ltb (v + get_or s i 0 * 2 ^ shift) (2 ^ 64) fits, next) refl)

  -- the last group, before the tenth
  pub last : get_or s i 0 < 128 → (shift ≡ 63 → ⊥) → (0 < shift → 0 < get_or s i 0) → Some (v + get_or s i 0 * 2 ^ shift % 2 ^ 64, i + 1) ≡ number_in 10 s at
  last l room some =
      let low = seven r (get_or s i 0) l room in
      rw low.exact (ended l some low.fits)

  -- the tenth group, with the 64th bit
  pub top : shift ≡ 63 → get_or s i 0 ≡ 1 → Some (v + 2 ^ 63, i + 1) ≡ number_in 10 s at
  top e one =
      let bit : get_or s i 0 * 2 ^ shift ≡ 2 ^ 63 = rw (one, e) refl in
      let below : v < 2 ^ 63 = rw e at r.small in
      ap (λ (n : ℕ). Some (v + n, i + 1)) (sym bit) ∙ ended (omega arith) (λ q. omega arith) (omega arith)

  -- a last group of 0 behind others
  pub padded : get_or s i 0 ≡ 0 → 0 < shift → None ≡ number_in 10 s at
  padded z some =
      sym
      (with-last (omega arith)
      ∙ ap (λ (b : ℕ). bounded at (after r.count v (2 ^ shift) (said b 1))) z
      ∙ ap (bounded at) (after-padded r.count v (2 ^ shift) 1 (omega arith)))

  -- the tenth group, where it is not 1: 0 behind others, past 64 bits, or not the last
  pub tenth : shift ≡ 63 → (get_or s i 0 ≡ 1 → ⊥) → None ≡ number_in 10 s at
  tenth e other = ⊎_elim
      (λ (l : get_or s i 0 < 128).
      ⊎_elim
      (λ (z : get_or s i 0 < 1). padded (omega arith) (omega arith))
      (λ (some : 1 ≤ get_or s i 0).
      let large : 2 ^ 64 ≤ v + get_or s i 0 * 2 ^ shift = rw e (omega arith) in
      sym
      (with-last l
      ∙ ap (bounded at) (after-some r.count v (2 ^ shift) (get_or s i 0) 1 (begins r) (λ q. omega arith))
      ∙ rw (le-ltb (v + get_or s i 0 * 2 ^ shift) (2 ^ 64) large) refl))
      (either_way (get_or s i 0) 1))
      (λ (m : 128 ≤ get_or s i 0).
      sym
      (with-more m
      ∙ ap (λ (g : Groups). bounded at (after r.count v (2 ^ shift) (before (get_or s i 0) g))) (read_none (9 - r.count) (drop (i + 1) s) (omega arith))
      ∙ ap (bounded at) (after-bad r.count v (2 ^ shift))))
      (either_way (get_or s i 0) 128)

  -- a group with its top bit set, and room behind it
  pub turn : 128 ≤ get_or s i 0 → get_or s i 0 < 256 → (shift ≡ 63 → ⊥) → Reading s at (v + (get_or s i 0 - 128) * 2 ^ shift % 2 ^ 64) (shift + 7) (i + 1)
  turn m byte room =
      let power : 2 ^ (shift + 7) ≡ 2 ^ shift * 128 = pow-add 2 shift 7 in
      let part : (get_or s i 0 - 128) * 2 ^ shift ≤ 127 * 2 ^ shift = mul-le-mul_right (2 ^ shift) (omega arith) in
      let left : 10 - suc r.count ≡ 9 - r.count = omega arith in
      rw (seven r (get_or s i 0 - 128) (omega arith) room).exact
      record {
        count = suc r.count;
        place = omega arith;
        bits = omega arith;
        room = omega arith;
        small = omega arith;
        whole =
            with-more m
            ∙ ap (bounded at) (after_more r.count v (2 ^ shift) (get_or s i 0) (read_groups (9 - r.count) (drop (i + 1) s)) (begins r))
            ∙ rw (power, left) refl;
      }
