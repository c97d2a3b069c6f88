-- Turns of the loops that take a line apart.
use Rattle.std.specs.Prelude.{None, Some}
use mathlib.Core.Path.{◌≡◌, refl, sym, ap, ap₂, ◌∙◌}
use mathlib.Core.Bool.{Bool, true, false, ◌&&◌}
use mathlib.Core.List.{List, [], ◌∷◌, ◌++◌}
use Prim.Native.Nat.{ℕ, zero, suc, ◌+◌, ◌-◌, ◌<◌, ◌≤◌}
use native.Mathlib.Omega.{arith}
use native.Mathlib.Nat.{sub-zero}
use lib.ListN.{length, take, drop, set}
use lib.Dec.{eqb}
use borrow.Author.Tests.{eqb-true, eqb-false}
use Rattle.std.specs.Cmp.Lexicographic.{pointwise}
use Rattle.numbers.specs.Choice.{pick}
use Rattle.numbers.proofs.Lent.{front-part}
use Rattle.numbers.specs.Parts.{front, put_at, put_front, put_step, put-none}
use Rattle.script.specs.Answers.{Parsed}
use Rattle.script.specs.declared.words.Word.{Word}
use Rattle.script.specs.Asked.{no_numbers, is_said, said_in, numbered, numbers_in, Behind}
use Rattle.script.specs.Decimal.{number_of}
use Rattle.script.specs.Names.{same_bytes}
use Rattle.script.specs.Words.{words_of, next_word}
use Rattle.script.proofs.Cuts.{word_none, word_some}
use Rattle.script.proofs.Digits.{number-none}

-- ---- two words compared
pub same-listed : (a b : List ℕ) → pointwise eqb a b ≡ same_bytes a b
unfolding same_bytes
same-listed [] [] = refl
same-listed [] (y ∷ b) = refl
same-listed (x ∷ a) [] = refl
same-listed (x ∷ a) (y ∷ b) = ap (λ (t : Bool). eqb x y && t) (same-listed a b)

-- ---- numbers, a word each
-- k of n numbers of the words ws are put over zeros, the words `left` follow
pub record Underway (n k : ℕ) (ws left : List (List ℕ)) (zeros values : List ℕ) : Type 0 where
  pub tested : numbered (n - k) left ≡ numbered n ws
  pub put : put_at values k (numbers_in (n - k) left) ≡ front (numbers_in n ws) zeros
  pub behind : drop (n - k) left ≡ drop n ws

pub underway-start : (n : ℕ) (ws : List (List ℕ)) (zeros : List ℕ) → Underway n 0 ws ws zeros zeros
underway-start n ws zeros = record {
  tested = ap (λ (m : ℕ). numbered m ws) (sub-zero n);
  put = ap (λ (m : ℕ). put_at zeros 0 (numbers_in m ws)) (sub-zero n) ∙ put_front zeros (numbers_in n ws);
  behind = ap (λ (m : ℕ). drop m ws) (sub-zero n);
}

pub underway-turn : (n k : ℕ) (ws left more : List (List ℕ)) (zeros values w : List ℕ) (v : ℕ) → k < n → k < length values → left ≡ w ∷ more → number_of w ≡ Some v
    → Underway n k ws left zeros values → Underway n (k + 1) ws more zeros (set values k v)
unfolding numbered numbers_in
underway-turn n k ws left more zeros values w v h room e said u =
    let one : n - k ≡ suc (n - (k + 1)) = omega arith in
    let t : numbered (n - k) left ≡ numbered (n - (k + 1)) more = ap₂ numbered one e ∙ ap (λ (p : Parsed). is_said p && numbered (n - (k + 1)) more) said in
    let p : numbers_in (n - k) left ≡ v ∷ numbers_in (n - (k + 1)) more = ap₂ numbers_in one e ∙ ap (λ (q : Parsed). said_in q ∷ numbers_in (n - (k + 1)) more) said in
    record {
      tested = sym t ∙ u.tested;
      put = put_step values k v (numbers_in (n - (k + 1)) more) room ∙ sym (ap (put_at values k) p) ∙ u.put;
      behind = sym (ap₂ (λ (m : ℕ) (x : List (List ℕ)). drop m x) one e) ∙ u.behind;
    }

both : (t u : Bool) → (t && u) ≡ true → u ≡ true
both true u h = h
both false u h = cc

numbers-length : (n : ℕ) (ws : List (List ℕ)) → numbered n ws ≡ true → length (numbers_in n ws) ≡ n
unfolding numbered numbers_in
numbers-length zero ws h = refl
numbers-length (suc n) [] h = cc
numbers-length (suc n) (w ∷ ws) h = ap suc (numbers-length n ws (both (is_said (number_of w)) (numbered n ws) h))

-- all n are put, in the first n of nine places
pub underway-end : (n k next : ℕ) (ws : List (List ℕ)) (text values : List ℕ) → n ≤ k → next ≤ length text
    → Underway n k ws (words_of (drop next text)) (take n no_numbers) values → Behind n ws text (values ++ drop n no_numbers) next
unfolding numbered numbers_in
underway-end n k next ws text values h within u =
    let over : n - k ≡ 0 = omega arith in
    let left = words_of (drop next text) in
    let tested : numbered n ws ≡ true = sym (sym (ap (λ (m : ℕ). numbered m left) over) ∙ u.tested) in
    let put : values ≡ front (numbers_in n ws) (take n no_numbers) = sym (put-none values k) ∙ sym (ap (λ (m : ℕ). put_at values k (numbers_in m left)) over) ∙ u.put in
    record {
      tested = tested;
      said = ap (λ (l : List ℕ). l ++ drop n no_numbers) put ∙ front-part no_numbers (numbers_in n ws) n (numbers-length n ws tested);
      rest = sym (ap (λ (m : ℕ). drop m left) over) ∙ u.behind;
      within = within;
    }

module _ (s : List ℕ) (from : ℕ) (w : Word) (e : w ≡ next_word s from) where
  -- no number, no word at all too
  pub number-no : (n k : ℕ) (ws : List (List ℕ)) (zeros values : List ℕ) → k < n → number_of (take (w.end - w.start) (drop w.start s)) ≡ None
      → Underway n k ws (words_of (drop from s)) zeros values → false ≡ numbered n ws
  unfolding numbered
  number-no n k ws zeros values h wrong u = go (eqb w.start w.end) refl
    where
      one : n - k ≡ suc (n - (k + 1))
      one = omega arith

      go : (t : Bool) → eqb w.start w.end ≡ t → false ≡ numbered n ws
      go true q = sym (ap₂ numbered one (word_none s from w e (eqb-true _ _ q))) ∙ u.tested
      go false q = sym (ap₂ numbered one (word_some s from w e (eqb-false _ _ q)) ∙ ap (λ (p : Parsed). is_said p && numbered (n - (k + 1)) (words_of (drop w.end s))) wrong) ∙ u.tested

  -- a number is a word's
  pub number_word : (v : ℕ) → number_of (take (w.end - w.start) (drop w.start s)) ≡ Some v
      → words_of (drop from s) ≡ take (w.end - w.start) (drop w.start s) ∷ words_of (drop w.end s)
  number_word v said = word_some s from w e (λ q. clash (sym (number-none (take (w.end - w.start) (drop w.start s)) (empty q)) ∙ said))
    where
      empty : w.start ≡ w.end → length (take (w.end - w.start) (drop w.start s)) ≡ 0
      empty q = let z : w.end - w.start ≡ 0 = omega (arith, q) in ap (λ (m : ℕ). length (take m (drop w.start s))) z

      clash : None ≡ Some v → ⊥
      clash q = let z : ◌≡◌ {A = ℕ} 0 1 = ap (λ (p : Parsed). pick (is_said p) 1 0) q in omega arith
