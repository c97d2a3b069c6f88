-- The next word of a line is the first of its words.
use mathlib.Core.Path.{◌≡◌, refl, sym, ap, ap₂, ◌∙◌}
use mathlib.Core.Bool.{Bool, true, false, not, beq}
use mathlib.Core.List.{List, [], ◌∷◌}
use Prim.Native.Nat.{ℕ, suc, ◌+◌, ◌-◌, ◌<◌}
use native.Mathlib.Omega.{arith}
use lib.ListN.{take, drop}
use lib.Seq.{drop-drop}
use lib.Dec.{eqb}
use borrow.Author.Tests.{eqb-true, eqb-false}
use Rattle.numbers.specs.Choice.{pick}
use Rattle.script.specs.declared.words.Word.{Word}
use Rattle.script.specs.Words.{is_blank, run_of, goes_on, joined, words_of, none, word_from, next_word}

skipped : (s : List ℕ) → words_of s ≡ words_of (drop (run_of true s) s)
unfolding words_of run_of
skipped [] = refl
skipped (b ∷ bs) = go (is_blank b) refl (skipped bs)
  where
    go : (t : Bool) → is_blank b ≡ t → words_of bs ≡ words_of (drop (run_of true bs) bs) → words_of (b ∷ bs) ≡ words_of (drop (pick (beq t true) (suc (run_of true bs)) 0) (b ∷ bs))
    go true e more = ap (λ (t : Bool). pick t (words_of bs) (joined (goes_on bs) b (words_of bs))) e ∙ more
    go false e more = refl

begins : (s : List ℕ) → 0 < run_of false s → goes_on s ≡ true
unfolding run_of goes_on
begins [] h = absurd (omega arith)
begins (b ∷ bs) h = go (is_blank b) h
  where
    go : (t : Bool) → 0 < pick (beq t false) (suc (run_of false bs)) 0 → not t ≡ true
    go true h = absurd (omega arith)
    go false h = refl

stops : (s : List ℕ) → goes_on s ≡ false → run_of false s ≡ 0
unfolding run_of goes_on
stops [] h = refl
stops (b ∷ bs) h = go (is_blank b) h
  where
    go : (t : Bool) → not t ≡ false → pick (beq t false) (suc (run_of false bs)) 0 ≡ 0
    go true h = refl
    go false h = absurd (let z : ◌≡◌ {A = ℕ} 1 0 = ap (λ (t : Bool). pick t 1 0) h in omega arith)

first : (s : List ℕ) → goes_on s ≡ true → words_of s ≡ take (run_of false s) s ∷ words_of (drop (run_of false s) s)
unfolding words_of run_of goes_on joined
first [] h = absurd (let z : ◌≡◌ {A = ℕ} 0 1 = ap (λ (t : Bool). pick t 1 0) h in omega arith)
first (b ∷ bs) h = go (is_blank b) h (goes_on bs) refl (first bs)
  where
    go : (t : Bool) → not t ≡ true → (u : Bool) → goes_on bs ≡ u → (goes_on bs ≡ true → words_of bs ≡ take (run_of false bs) bs ∷ words_of (drop (run_of false bs) bs))
        → pick t (words_of bs) (joined u b (words_of bs))
        ≡ take (pick (beq t false) (suc (run_of false bs)) 0) (b ∷ bs) ∷ words_of (drop (pick (beq t false) (suc (run_of false bs)) 0) (b ∷ bs))
    go true h u e more = absurd (let z : ◌≡◌ {A = ℕ} 0 1 = ap (λ (t : Bool). pick t 1 0) h in omega arith)
    go false h true e more = ap (joined true b) (more e)
    go false h false e more = sym (ap (λ (n : ℕ). (b ∷ take n bs) ∷ words_of (drop n bs)) (stops bs e))

silent : (s : List ℕ) → run_of false (drop (run_of true s) s) ≡ 0 → words_of s ≡ []
unfolding words_of run_of
silent [] h = refl
silent (b ∷ bs) h = go (is_blank b) refl h (silent bs)
  where
    go : (t : Bool) → is_blank b ≡ t → run_of false (drop (pick (beq t true) (suc (run_of true bs)) 0) (b ∷ bs)) ≡ 0
        → (run_of false (drop (run_of true bs) bs) ≡ 0 → words_of bs ≡ []) → pick t (words_of bs) (joined (goes_on bs) b (words_of bs)) ≡ []
    go true e h more = more h
    go false e h more = absurd (let z : suc (run_of false bs) ≡ 0 = sym (ap (λ (t : Bool). pick (beq t false) (suc (run_of false bs)) 0) e) ∙ h in omega arith)

module _ (s : List ℕ) (from : ℕ) (w : Word) (e : w ≡ next_word s from) where
  starts : w.start ≡ from + run_of true (drop from s)
  unfolding next_word word_from
  starts = ap (λ (v : Word). v.start) e

  ends : w.end ≡ w.start + run_of false (drop w.start s)
  unfolding next_word word_from
  ends = ap (λ (v : Word). v.end) e ∙ ap (λ (n : ℕ). n + run_of false (drop n s)) (sym starts)

  -- behind the blanks
  behind : drop w.start s ≡ drop (run_of true (drop from s)) (drop from s)
  behind = ap (λ (n : ℕ). drop n s) starts ∙ sym (drop-drop (run_of true (drop from s)) from s)

  pub word_none : w.start ≡ w.end → words_of (drop from s) ≡ []
  word_none q =
      let run : run_of false (drop w.start s) ≡ 0 = omega (arith, ends, q) in
      silent (drop from s) (sym (ap (run_of false) behind) ∙ run)

  pub word_some : (w.start ≡ w.end → ⊥) → words_of (drop from s) ≡ take (w.end - w.start) (drop w.start s) ∷ words_of (drop w.end s)
  word_some q =
      let t = drop w.start s in
      let size : run_of false t ≡ w.end - w.start = omega (arith, ends) in
      let some : 0 < run_of false t = omega (arith, ends, q) in
      let rest : drop (run_of false t) t ≡ drop w.end s = drop-drop (run_of false t) w.start s ∙ ap (λ (n : ℕ). drop n s) (sym ends) in
      skipped (drop from s) ∙ ap words_of (sym behind) ∙ first t (begins t some) ∙ ap₂ (λ (n : ℕ) (u : List ℕ). take n t ∷ words_of u) size rest

  pub none-test : eqb w.start w.end ≡ none (words_of (drop from s))
  unfolding none
  none-test = go (eqb w.start w.end) refl
    where
      go : (t : Bool) → eqb w.start w.end ≡ t → t ≡ none (words_of (drop from s))
      go true q = sym (ap none (word_none (eqb-true _ _ q)))
      go false q = sym (ap none (word_some (eqb-false _ _ q)))
