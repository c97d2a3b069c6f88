-- A turn of a loop over a list: what is left from place i on, and its end. No word of the paper is here.
use Rattle.std.specs.Prelude.{◌≡◌, ◌≤◌, ◌<◌, ◌∷◌, ◌++◌, ◌+◌}
use Rattle.std.proofs.Math.Path.{ap, refl}
use Rattle.std.proofs.Common.{add-one, drop_of_length-le, drop-cons, eq-eqb, ne_eqb}
use Rattle.rules.specs.Base.{Bool, false, List, [], ℕ, length, get_or, drop, any, each, sum, larger, greatest, true, zeros}

-- what is left has the element of place i first
pub left-next : {A : Type 0} (xs : List A) (i : ℕ) (d : A) → i < length xs → drop i xs ≡ get_or xs i d ∷ drop (i + 1) xs
left-next xs i d h = rw add-one (drop-cons xs i d h)

-- behind the last place nothing is left
pub left-none : {A : Type 0} (xs : List A) (i : ℕ) → length xs ≤ i → drop i xs ≡ []
left-none xs i h = drop_of_length-le xs h

module _ {A : Type 0} (xs : List A) (i : ℕ) (d : A) (h : i < length xs) where
  -- whether some element passes: this one does, or the rest decides
  pub any_here : (f : A → Bool) → f (get_or xs i d) ≡ true → any f (drop i xs) ≡ true
  unfolding any
  any_here f e = rw (left-next xs i d h, e) refl

  pub any-later : (f : A → Bool) → f (get_or xs i d) ≡ false → any f (drop (i + 1) xs) ≡ any f (drop i xs)
  unfolding any
  any-later f e = rw (left-next xs i d h, e) refl

  -- what each gives
  pub each_next : {B : Type 0} (f : A → List B) → each f (drop i xs) ≡ f (get_or xs i d) ++ each f (drop (i + 1) xs)
  unfolding each
  each_next f = ap (each f) (left-next xs i d h)

  -- a sum
  pub sum-next : (f : A → ℕ) → sum f (drop i xs) ≡ f (get_or xs i d) + sum f (drop (i + 1) xs)
  unfolding sum
  sum-next f = ap (sum f) (left-next xs i d h)

  -- the greatest
  pub greatest-next : (f : A → ℕ) → greatest f (drop i xs) ≡ larger (f (get_or xs i d)) (greatest f (drop (i + 1) xs))
  unfolding greatest
  greatest-next f = ap (greatest f) (left-next xs i d h)

module _ {A : Type 0} (xs : List A) (i : ℕ) (h : length xs ≤ i) where
  -- none passes
  pub any-end : (f : A → Bool) → any f (drop i xs) ≡ false
  unfolding any
  any-end f = ap (any f) (left-none xs i h)

  -- none gives anything
  pub each-end : {B : Type 0} (f : A → List B) → each f (drop i xs) ≡ []
  unfolding each
  each-end f = ap (each f) (left-none xs i h)

  -- the empty sum
  pub sum-end : (f : A → ℕ) → sum f (drop i xs) ≡ 0
  unfolding sum
  sum-end f = ap (sum f) (left-none xs i h)

  -- 0 for none
  pub greatest-end : (f : A → ℕ) → greatest f (drop i xs) ≡ 0
  unfolding greatest
  greatest-end f = ap (greatest f) (left-none xs i h)

-- ---- zeros from place i on
-- place i is 0: the rest decides
pub zeros-more : (s : List ℕ) (i : ℕ) → i < length s → get_or s i 0 ≡ 0 → zeros (drop (i + 1) s) ≡ zeros (drop i s)
unfolding zeros any
zeros-more s i h e = rw (add-one, drop-cons s i 0 h, eq-eqb (get_or s i 0) 0 e) refl

-- it is not
pub zeros-not : (s : List ℕ) (i : ℕ) → i < length s → (get_or s i 0 ≡ 0 → ⊥) → zeros (drop i s) ≡ false
unfolding zeros any
zeros-not s i h n = rw (drop-cons s i 0 h, ne_eqb (get_or s i 0) 0 n) refl

-- nothing is left
pub zeros-end : (s : List ℕ) (i : ℕ) → length s ≤ i → zeros (drop i s) ≡ true
unfolding zeros any
zeros-end s i h = rw (left-none s i h) refl
