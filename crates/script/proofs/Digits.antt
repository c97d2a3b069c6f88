-- A number read digit by digit is the number that the whole word says.
use Rattle.std.specs.Prelude.{None, Some}
use mathlib.Core.Path.{◌≡◌, refl}
use mathlib.Core.Bool.{Bool, true, false, ◌&&◌}
use mathlib.Core.List.{List, [], ◌∷◌}
use Prim.Native.Nat.{ℕ, ◌+◌, ◌-◌, ◌*◌, ◌^◌, ◌<◌, ◌≤◌}
use native.Mathlib.Omega.{arith}
use native.Mathlib.Numerals.{add-one}
use lib.ListN.{length, drop, get_or, drop_of_length-le}
use lib.Seq.{drop-cons}
use lib.Dec.{ltb}
use borrow.Author.Tests.{lt-ltb, le-ltb, ltb-true, ltb-false}
use Rattle.numbers.specs.Choice.{pick}
use Rattle.script.specs.Answers.{Parsed}
use Rattle.script.specs.Decimal.{is_digit, all_digits, value_from, number_of, longer_by}

abbrev pub next : Parsed → (ℕ → Parsed) → Parsed
next (Some m) f = f m
next None f = None

-- digit by digit behind the number n
unfoldable pub said_from : ℕ → List ℕ → Parsed
said_from n [] = Some n
said_from n (b ∷ bs) = next (longer_by n b) (λ (m : ℕ). said_from m bs)

grows : (n : ℕ) (bs : List ℕ) → n ≤ value_from n bs
unfolding value_from
grows n [] = omega arith
grows n (b ∷ bs) = omega (arith, grows (n * 10 + (b - 48)) bs)

pub neither : (t : Bool) → (t && false) ≡ false
neither true = refl
neither false = refl

whole : (n : ℕ) (bs : List ℕ) → n < 2 ^ 64 → said_from n bs ≡ pick (all_digits bs && ltb (value_from n bs) (2 ^ 64)) (Some (value_from n bs)) None
unfolding said_from all_digits value_from longer_by
whole n [] h = rw (lt-ltb _ _ h) refl
whole n (b ∷ bs) h = go (is_digit b) (ltb (n * 10 + (b - 48)) (2 ^ 64)) refl (whole (n * 10 + (b - 48)) bs) (grows (n * 10 + (b - 48)) bs)
  where
    go : (t u : Bool) → ltb (n * 10 + (b - 48)) (2 ^ 64) ≡ u
        → (n * 10 + (b - 48) < 2 ^ 64 → said_from (n * 10 + (b - 48)) bs ≡ pick (all_digits bs && ltb (value_from (n * 10 + (b - 48)) bs) (2 ^ 64)) (Some (value_from (n * 10 + (b - 48)) bs)) None)
        → n * 10 + (b - 48) ≤ value_from (n * 10 + (b - 48)) bs
        → next (pick (t && u) (Some (n * 10 + (b - 48))) None) (λ (k : ℕ). said_from k bs) ≡ pick ((t && all_digits bs) && ltb (value_from (n * 10 + (b - 48)) bs) (2 ^ 64)) (Some (value_from (n * 10 + (b - 48)) bs)) None
    go false u e ih g = refl
    go true true e ih g = ih (ltb-true _ _ e)
    go true false e ih g = rw (le-ltb (value_from (n * 10 + (b - 48)) bs) (2 ^ 64) (let f : 2 ^ 64 ≤ n * 10 + (b - 48) = ltb-false _ _ e in omega arith), neither (all_digits bs)) refl

pub number-none : (w : List ℕ) → length w ≡ 0 → number_of w ≡ None
unfolding number_of
number-none [] h = refl
number-none (b ∷ bs) h = absurd (omega arith)

pub stopped : (p : Parsed) (f : ℕ → Parsed) → p ≡ None → next p f ≡ None
stopped p f e = rw e refl

pub went : (p : Parsed) (m : ℕ) (f : ℕ → Parsed) → p ≡ Some m → next p f ≡ f m
went p m f e = rw e refl

pub said-whole : (w : List ℕ) → 0 < length w → said_from 0 w ≡ number_of w
unfolding number_of
said-whole [] h = absurd (omega arith)
said-whole (b ∷ bs) h = whole 0 (b ∷ bs) (omega arith)

pub said-turn : (w : List ℕ) (n i : ℕ) → i < length w → said_from n (drop i w) ≡ next (longer_by n (get_or w i 0)) (λ (m : ℕ). said_from m (drop (i + 1) w))
unfolding said_from
said-turn w n i h = rw (add-one, drop-cons w i 0 h) refl

pub said-end : (w : List ℕ) (n i : ℕ) → length w ≤ i → said_from n (drop i w) ≡ Some n
unfolding said_from
said-end w n i h = rw (drop_of_length-le w {i = i} h) refl
