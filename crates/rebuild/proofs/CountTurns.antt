-- One turn of each loop that counts, and its end.
use mathlib.Core.Path.{◌≡◌, refl, ap, ◌∙◌}
use mathlib.Core.Logic.{◌⊎◌, inl, inr}
use mathlib.Core.List.{List, [], ◌∷◌, ◌++◌, map, append-nil}
use Prim.Native.Nat.{ℕ, zero, suc, ◌+◌, ◌<◌, ◌≤◌, max}
use native.Mathlib.Omega.{arith}
use native.Mathlib.Nat.{not-suc-le-zero, le_of_suc-le-suc}
use native.Mathlib.Numerals.{add-one}
use borrow.Author.Tests.{le-leb, lt-leb}
use lib.ListN.{length, get_or, set, take, drop, drop_of_length-le}
use lib.Seq.{take-suc, take_all}
use Rattle.numbers.specs.GroupLaws.{either_way}
use Rattle.rules.specs.Base.{larger, greatest}
use Rattle.rules.specs.FileMap.{empty_label}
use Rattle.rules.proofs.TurnLaws.{greatest-next as greatest-next-of, greatest-end as greatest-end-of}
use Rattle.reopen_tests.specs.Labels.{label_at}
use Rattle.rebuild.specs.Types.{Label}

module _ {A : Type 0} (default : A) (xs : List A) (i : ℕ) where
  pub taken : i < length xs → take (i + 1) xs ≡ take i xs ++ (get_or xs i default ∷ [])
  taken h = rw (add-one i) (take-suc xs i default h)

-- the first i, with f of the one at i behind them
pub taken-map : {A B : Type 0} (f : A → B) (default : A) (xs : List A) (i : ℕ) → i < length xs → take (i + 1) (map f xs) ≡ take i (map f xs) ++ (f (get_or xs i default) ∷ [])
taken-map {A = A} {B = B} f default xs i h = rw (add-one i) (go xs i h)
  where
    go : (ys : List A) (j : ℕ) → j < length ys → take (suc j) (map f ys) ≡ take j (map f ys) ++ (f (get_or ys j default) ∷ [])
    go [] j q = absurd (not-suc-le-zero q)
    go (y ∷ ys) zero q = refl
    go (y ∷ ys) (suc j) q = ap (λ (zs : List B). f y ∷ zs) (go ys j (le_of_suc-le-suc q))

-- ---- something made of each label: those up to k are made, what stands behind is as it was
abbrev pub map_to : {A : Type 0} → (Label → A) → ℕ → List Label → List A → List A
map_to f k ls rs = map f (take k ls) ++ drop k rs

module _ {A : Type 0} (f : Label → A) where
  pub map_next : (ls : List Label) (rs : List A) (k : ℕ) → k < length ls → k < length rs → set (map_to f k ls rs) k (f (label_at ls k)) ≡ map_to f (k + 1) ls rs
  map_next ls rs k h m = rw (add-one k) (go ls rs k h m)
    where
      go : (xs : List Label) (ys : List A) (j : ℕ) → j < length xs → j < length ys → set (map_to f j xs ys) j (f (label_at xs j)) ≡ map_to f (suc j) xs ys
      go [] ys j q w = absurd (not-suc-le-zero q)
      go (x ∷ xs) [] j q w = absurd (not-suc-le-zero w)
      go (x ∷ xs) (y ∷ ys) zero q w = refl
      go (x ∷ xs) (y ∷ ys) (suc j) q w = ap (λ (zs : List A). f x ∷ zs) (go xs ys j (le_of_suc-le-suc q) (le_of_suc-le-suc w))

  pub map-end : (ls : List Label) (rs : List A) (k : ℕ) → length ls ≤ k → length rs ≤ k → map_to f k ls rs ≡ map f ls
  map-end ls rs k h m = rw (take_all k ls h, drop_of_length-le rs {i = k} m) (append-nil (map f ls))

-- ---- the greatest
larger-max : (a b : ℕ) → larger a b ≡ max a b
larger-max a b = go (either_way b a)
  where
    go : (b < a) ⊎ (a ≤ b) → larger a b ≡ max a b
    go (inl l) = rw (lt-leb a b l) (omega arith)
    go (inr l) = rw (le-leb a b l) (omega arith)

module _ (f : Label → ℕ) (ls : List Label) where
  pub greatest-start : larger 0 (greatest f ls) ≡ greatest f ls
  greatest-start = larger-max 0 (greatest f ls) ∙ omega arith

  pub greatest-next : (k most here : ℕ) → k < length ls → here ≡ max most (f (label_at ls k)) → larger here (greatest f (drop (k + 1) ls)) ≡ larger most (greatest f (drop k ls))
  greatest-next k most here h e =
      let rest : greatest f (drop k ls) ≡ larger (f (label_at ls k)) (greatest f (drop (k + 1) ls)) = greatest-next-of ls k empty_label h f in
      rw (e, rest) (simp larger-max (omega arith))

  pub greatest-end : (k most : ℕ) → length ls ≤ k → larger most (greatest f (drop k ls)) ≡ most
  greatest-end k most h = ap (larger most) (greatest-end-of ls k h f) ∙ larger-max most 0 ∙ omega arith
