-- Turns of the loops over a word or over bytes.
use mathlib.Core.Path.{◌≡◌, refl, ap, ◌∙◌}
use mathlib.Core.Bool.{Bool, true, false, cond, ◌&&◌, beq}
use mathlib.Core.List.{List, [], ◌∷◌}
use Prim.Native.Nat.{ℕ, suc, ◌+◌, ◌*◌, ◌/◌, ◌%◌, ◌<◌, ◌≤◌}
use native.Mathlib.Omega.{arith}
use native.Mathlib.Numerals.{add-one}
use lib.ListN.{length, drop, get_or, set, length-drop, length-set, drop_of_length-le}
use lib.Seq.{drop-cons}
use borrow.Author.Tests.{eq-eqb, ne_eqb}
use Rattle.std.specs.List.{list_all, prefix_len, take_while}
use Rattle.std.proofs.lemmas.List.Folds.{length-prefix_len}
use Rattle.numbers.specs.Choice.{pick}
use Rattle.numbers.specs.Parts.{put_at, put_step}
use Rattle.script.specs.Words.{is_blank, run_of}
use Rattle.script.specs.Hex.{is_hex_digit, is_hex, all_hex, nibble_of, bytes_of, glyph_of, text_of}

counted : (t : Bool) (m n : ℕ) → m ≡ n → cond t (1 + m) 0 ≡ pick t (suc n) 0
counted true m n e = omega arith
counted false m n e = refl

run-prefix : (blank : Bool) (s : List ℕ) → prefix_len (λ b. beq (is_blank b) blank) s ≡ run_of blank s
unfolding run_of
run-prefix blank [] = refl
run-prefix blank (b ∷ s) = counted (beq (is_blank b) blank) _ _ (run-prefix blank s)

-- the bytes that are taken, counted
pub run-taken : (blank : Bool) (s : List ℕ) → length (take_while (λ b. beq (is_blank b) blank) s) ≡ run_of blank s
run-taken blank s = length-prefix_len (λ b. beq (is_blank b) blank) s ∙ run-prefix blank s

pub digits-all : (w : List ℕ) → list_all is_hex_digit w ≡ all_hex w
unfolding all_hex
digits-all [] = refl
digits-all (b ∷ w) = ap (λ (t : Bool). is_hex_digit b && t) (digits-all w)

pub odd-none : (w : List ℕ) → (length w % 2 ≡ 0 → ⊥) → is_hex w ≡ false
unfolding is_hex
odd-none w h = rw (ne_eqb _ _ h) refl

pub even-hex : (w : List ℕ) → length w % 2 ≡ 0 → is_hex w ≡ all_hex w
unfolding is_hex
even-hex w h = rw (eq-eqb _ _ h) refl

-- a pair from an even place on
pub pair_turn : (s : List ℕ) (k : ℕ) → k < length s / 2
    → bytes_of (drop (k * 2) s) ≡ (nibble_of (get_or s (k * 2) 0) * 16 + nibble_of (get_or s (k * 2 + 1) 0)) ∷ bytes_of (drop ((k + 1) * 2) s)
unfolding bytes_of
pair_turn s k h =
    let on : (k + 1) * 2 ≡ suc (suc (k * 2)) = omega arith in
    let first : drop (k * 2) s ≡ get_or s (k * 2) 0 ∷ drop (suc (k * 2)) s = drop-cons s (k * 2) 0 (omega arith) in
    let second : drop (suc (k * 2)) s ≡ get_or s (suc (k * 2)) 0 ∷ drop (suc (suc (k * 2))) s = drop-cons s (suc (k * 2)) 0 (omega arith) in
    rw (on, add-one (k * 2), first, second) refl

pub pair_end : (s : List ℕ) (k : ℕ) → length s / 2 ≤ k → bytes_of (drop (k * 2) s) ≡ []
unfolding bytes_of
pair_end s k h = short (drop (k * 2) s) (omega (arith, length-drop (k * 2) s))
  where
    short : (xs : List ℕ) → length xs < 2 → bytes_of xs ≡ []
    short [] h = refl
    short (x ∷ []) h = refl
    short (x ∷ y ∷ xs) h = absurd (omega arith)

pub text-turn : (s : List ℕ) (k : ℕ) → k < length s
    → text_of (drop k s) ≡ glyph_of (get_or s k 0 / 16) ∷ glyph_of (get_or s k 0 % 16) ∷ text_of (drop (k + 1) s)
unfolding text_of
text-turn s k h = rw (add-one, drop-cons s k 0 h) refl

pub text-end : (s : List ℕ) (k : ℕ) → length s ≤ k → text_of (drop k s) ≡ []
unfolding text_of
text-end s k h = rw (drop_of_length-le s {i = k} h) refl

-- two bytes stored, one behind the other
pub put_two : (s : List ℕ) (i a b : ℕ) (bs : List ℕ) → i + 1 < length s → put_at (set (set s i a) (i + 1) b) (i + 1 + 1) bs ≡ put_at s i (a ∷ b ∷ bs)
put_two s i a b bs h = put_step (set s i a) (i + 1) b bs (omega (arith, length-set s i a)) ∙ put_step s i a (b ∷ bs) (omega arith)
