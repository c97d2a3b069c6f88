-- Laws of tests and lists: no word of the paper is here.
use Rattle.std.specs.Prelude.{◌≡◌, refl, ◌⊎◌, ◌≤◌, ◌<◌, ◌&&◌, ◌||◌, ◌∷◌, ◌++◌, ◌-◌}
use Rattle.std.proofs.Common.{sym, ap, ap₂, ◌∙◌, append_assoc, true≢false, inl, inr, ⊎_elim, eq-or-lt_of_le, le_of_suc-le-suc, not-suc-le-zero, arith, length-append, ltb-true, ltb-false, leb-true, eqb-true, le-leb, eq-eqb}
use Rattle.std.proofs.lemmas.Bool.{false≢true, eqb-false}
use Rattle.std.proofs.lemmas.List.{length-replicate}
use Rattle.rules.specs.Base.{Bool, true, false, not, List, [], ℕ, zero, suc, length, replicate, leb, ltb, eqb, within, any, each, zeros, padded, get_or, take}
use Rattle.rules.specs.BaseLaws.{All, Some}

-- ---- tests
-- no test of a chain of `||` holds
pub or-false : (a b : Bool) → (a || b) ≡ false → (a ≡ false) × (b ≡ false)
or-false true b e = absurd (true≢false e)
or-false false b e = (refl, e)

-- and back
pub or-clear : (a b : Bool) → a ≡ false → b ≡ false → (a || b) ≡ false
or-clear a b p q = rw p q

-- every test of a chain of `&&` holds
pub and-true : (a b : Bool) → (a && b) ≡ true → (a ≡ true) × (b ≡ true)
and-true true b e = (refl, e)
and-true false b e = absurd (false≢true e)

-- and back
pub and-holds : (a b : Bool) → a ≡ true → b ≡ true → (a && b) ≡ true
and-holds a b p q = rw p q

-- some test of two holds
pub or-true : (a b : Bool) → (a || b) ≡ true → (a ≡ true) ⊎ (b ≡ true)
or-true true b e = inl refl
or-true false b e = inr e

-- and back
pub or-holds : (a b : Bool) → (a ≡ true) ⊎ (b ≡ true) → (a || b) ≡ true
or-holds true b w = refl
or-holds false b (inl p) = absurd (false≢true p)
or-holds false b (inr q) = q

-- some test of two does not hold
pub and-false : (a b : Bool) → (a && b) ≡ false → (a ≡ false) ⊎ (b ≡ false)
and-false true b e = inr e
and-false false b e = inl refl

-- both bounds hold
pub within-true : (low high n : ℕ) → within low high n ≡ true → (low ≤ n) × (n ≤ high)
within-true low high n e =
    let w = and-true (leb low n) (leb n high) e in
    (leb-true low n w.0, leb-true n high w.1)

-- and back
pub within-holds : (low high n : ℕ) → low ≤ n → n ≤ high → within low high n ≡ true
within-holds low high n p q = and-holds (leb low n) (leb n high) (le-leb low n p) (le-leb n high q)

-- by cases on the order of two numbers
pub order : (a b : ℕ) → (a < b) ⊎ ((a ≡ b) ⊎ (b < a))
order a b = go (ltb a b) refl
  where
    go : (t : Bool) → ltb a b ≡ t → (a < b) ⊎ ((a ≡ b) ⊎ (b < a))
    go true h = inl (ltb-true a b h)
    go false h = inr (equal (eq-or-lt_of_le (ltb-false a b h)))
      where
        equal : (b ≡ a) ⊎ (b < a) → (a ≡ b) ⊎ (b < a)
        equal (inl e) = inl (sym e)
        equal (inr l) = inr l

-- by cases on their equality
pub same? : (a b : ℕ) → (a ≡ b) ⊎ (a ≡ b → ⊥)
same? a b = go (eqb a b) refl
  where
    go : (t : Bool) → eqb a b ≡ t → (a ≡ b) ⊎ (a ≡ b → ⊥)
    go true h = inl (eqb-true a b h)
    go false h = inr (eqb-false a b h)

-- a number is 0 or more
pub zero-or-more : (n : ℕ) → (n ≡ 0) ⊎ (0 < n)
zero-or-more zero = inl refl
zero-or-more (suc n) = inr (omega arith)

-- what each has, each has by what follows from it
pub all_map : {A : Type 0} (P Q : A → Type 0) (xs : List A) → ((x : A) → P x → Q x) → All P xs → All Q xs
all_map P Q [] f a = tt
all_map P Q (x ∷ xs) f a = (f x a.0, all_map P Q xs f a.1)

-- of two lists, of both
pub all_append : {A : Type 0} (P : A → Type 0) (xs ys : List A) → All P xs → All P ys → All P (xs ++ ys)
all_append P [] ys a b = b
all_append P (x ∷ xs) ys a b = (a.0, all_append P xs ys a.1 b)

-- of two lists, what each makes of both
pub each_append : {A B : Type 0} (f : A → List B) (xs ys : List A) → each f (xs ++ ys) ≡ each f xs ++ each f ys
unfolding each
each_append f [] ys = refl
each_append {B = B} f (x ∷ xs) ys = ap (λ (l : List B). f x ++ l) (each_append f xs ys) ∙ sym (append_assoc (f x) (each f xs) (each f ys))

-- two things at once
pub all_both : {A : Type 0} (P Q : A → Type 0) (xs : List A) → All P xs → All Q xs → All (λ (x : A). P x × Q x) xs
all_both P Q [] a b = tt
all_both P Q (x ∷ xs) a b = ((a.0, b.0), all_both P Q xs a.1 b.1)

-- of the one at i
pub all-at : {A : Type 0} (P : A → Type 0) (xs : List A) (i : ℕ) (d : A) → All P xs → i < length xs → P (get_or xs i d)
all-at P [] i d a h = absurd (not-suc-le-zero h)
all-at P (x ∷ xs) zero d a h = a.0
all-at P (x ∷ xs) (suc i) d a h = all-at P xs i d a.1 (le_of_suc-le-suc h)

-- of the first n
pub all_take : {A : Type 0} (P : A → Type 0) (n : ℕ) (xs : List A) → All P xs → All P (take n xs)
all_take P zero xs a = tt
all_take P (suc n) [] a = tt
all_take P (suc n) (x ∷ xs) a = (a.0, all_take P n xs a.1)

-- the same element again and again, and past them
pub replicate-at : {A : Type 0} (n i : ℕ) (a : A) → get_or (replicate n a) i a ≡ a
replicate-at zero i a = refl
replicate-at (suc n) zero a = refl
replicate-at (suc n) (suc i) a = replicate-at n i a

-- one passes
pub any-true : {A : Type 0} (f : A → Bool) (P : A → Type 0) → ((x : A) → f x ≡ true → P x) → (xs : List A) → any f xs ≡ true → Some P xs
unfolding any
any-true f P h [] e = absurd (true≢false (sym e))
any-true f P h (x ∷ xs) e = ⊎_elim (λ a. inl (h x a)) (λ a. inr (any-true f P h xs a)) (or-true (f x) (any f xs) e)

-- and back
pub any-holds : {A : Type 0} (f : A → Bool) (P : A → Type 0) → ((x : A) → P x → f x ≡ true) → (xs : List A) → Some P xs → any f xs ≡ true
unfolding any
any-holds f P h [] s = absurd s
any-holds f P h (x ∷ xs) (inl a) = or-holds (f x) (any f xs) (inl (h x a))
any-holds f P h (x ∷ xs) (inr a) = or-holds (f x) (any f xs) (inr (any-holds f P h xs a))

-- none passes
pub any_false : {A : Type 0} (f : A → Bool) (xs : List A) → any f xs ≡ false → All (λ (x : A). f x ≡ false) xs
unfolding any
any_false f [] e = tt
any_false f (x ∷ xs) e = let w = or-false (f x) (any f xs) e in (w.0, any_false f xs w.1)

-- and back
pub any-clear : {A : Type 0} (f : A → Bool) (xs : List A) → All (λ (x : A). f x ≡ false) xs → any f xs ≡ false
unfolding any
any-clear f [] a = refl
any-clear f (x ∷ xs) a = or-clear (f x) (any f xs) a.0 (any-clear f xs a.1)

-- of two lists, one of either
pub any_append : {A : Type 0} (f : A → Bool) (xs ys : List A) → any f (xs ++ ys) ≡ (any f xs || any f ys)
unfolding any
any_append f [] ys = refl
any_append f (x ∷ xs) ys = go (f x) (any_append f xs ys)
  where
    go : (t : Bool) → any f (xs ++ ys) ≡ (any f xs || any f ys) → (t || any f (xs ++ ys)) ≡ ((t || any f xs) || any f ys)
    go true ih = refl
    go false ih = ih

-- ---- zeros
pub zeros-cons : (n : ℕ) (ns : List ℕ) → zeros (n ∷ ns) ≡ (eqb n 0 && zeros ns)
unfolding zeros any
zeros-cons n ns = go (eqb n 0)
  where
    go : (t : Bool) → not (not t || any (λ (m : ℕ). not (eqb m 0)) ns) ≡ (t && not (any (λ (m : ℕ). not (eqb m 0)) ns))
    go true = refl
    go false = refl

-- all 0: the first and the rest
pub zeros-true : (n : ℕ) (ns : List ℕ) → zeros (n ∷ ns) ≡ true → (n ≡ 0) × (zeros ns ≡ true)
zeros-true n ns e =
    let w = and-true (eqb n 0) (zeros ns) (sym (zeros-cons n ns) ∙ e) in
    (eqb-true n 0 w.0, w.1)

-- and back
pub zeros-holds : (n : ℕ) (ns : List ℕ) → n ≡ 0 → zeros ns ≡ true → zeros (n ∷ ns) ≡ true
zeros-holds n ns p q = zeros-cons n ns ∙ and-holds (eqb n 0) (zeros ns) (eq-eqb n 0 p) q

-- zeros are zeros
pub zeros-replicate : (n : ℕ) → zeros (replicate n 0) ≡ true
unfolding zeros any
zeros-replicate zero = refl
zeros-replicate (suc n) = zeros-holds 0 (replicate n 0) refl (zeros-replicate n)

-- and only they
pub zeros-is : (ns : List ℕ) → zeros ns ≡ true → ns ≡ replicate (length ns) 0
zeros-is [] e = refl
zeros-is (n ∷ ns) e =
    let w = zeros-true n ns e in
    ap₂ (λ (x : ℕ) (xs : List ℕ). x ∷ xs) w.0 (zeros-is ns w.1)

-- padded to n, it has n
pub padded-length : (n : ℕ) (ns : List ℕ) → length ns ≤ n → length (padded n ns) ≡ n
unfolding padded
padded-length n ns h = omega (arith, length-append ns (replicate (n - length ns) 0), length-replicate {A = ℕ} (n - length ns) 0)
