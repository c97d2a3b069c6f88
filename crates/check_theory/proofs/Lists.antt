-- What holds of all elements of a list, and numbers that differ: no word of the paper is here.
use Rattle.std.specs.Prelude.{◌≡◌, refl, ◌⊎◌, ◌<◌, ◌≤◌, ◌∷◌, ◌++◌}
use Rattle.std.proofs.Common.{sym, ap, ◌∙◌, subst, inl, inr, zero-le, arith, eq-eqb, ne_eqb}
use Rattle.rules.specs.Base.{Bool, true, false, List, [], ℕ, suc, length, get_or, eqb, pick, keep, each}
use Rattle.rules.specs.BaseLaws.{All}
use Rattle.rules.proofs.BaseLaws.{all_map, all_both, same?}
use Rattle.rules.specs.FileMapLaws.{Among}
use Rattle.check_theory.specs.Lists.{In, Different, without}

-- of two lists, so of the first
pub all_first : {A : Type 0} (P : A → Type 0) (xs ys : List A) → All P (xs ++ ys) → All P xs
all_first P [] ys a = tt
all_first P (x ∷ xs) ys a = (a.0, all_first P xs ys a.1)

-- and of the second
pub all_rest : {A : Type 0} (P : A → Type 0) (xs ys : List A) → All P (xs ++ ys) → All P ys
all_rest P [] ys a = a
all_rest P (x ∷ xs) ys a = all_rest P xs ys a.1

-- of all that each gives, so of what one gives
pub each_all : {A B : Type 0} (P : B → Type 0) (f : A → List B) (xs : List A) → All P (each f xs) → All (λ (x : A). All P (f x)) xs
unfolding each
each_all P f [] a = tt
each_all P f (x ∷ xs) a = (all_first P (f x) (each f xs) a, each_all P f xs (all_rest P (f x) (each f xs) a))

-- of every element, so of these
pub of-every : {A : Type 0} (P : A → Type 0) (xs : List A) → ((x : A) → P x) → All P xs
of-every P [] h = tt
of-every P (x ∷ xs) h = (h x, of-every P xs h)

-- of each by its place, so of all
pub by_place : {A : Type 0} (P : A → Type 0) (xs : List A) (d : A) → ((i : ℕ) → i < length xs → P (get_or xs i d)) → All P xs
by_place P [] d h = tt
by_place P (x ∷ xs) d h = (h 0 (omega arith), by_place P xs d (λ i l. h (suc i) (omega arith)))

-- nothing is there
pub none-there : {A : Type 0} (xs : List A) → All (λ (x : A). ⊥) xs → xs ≡ []
none-there [] a = refl
none-there (x ∷ xs) a = absurd a.0

-- all pass: all are kept
pub keep_all : {A : Type 0} (f : A → Bool) (xs : List A) → All (λ (x : A). f x ≡ true) xs → keep f xs ≡ xs
unfolding keep
keep_all f [] a = refl
keep_all f (x ∷ xs) a = rw a.0 (ap (λ (ys : List _). x ∷ ys) (keep_all f xs a.1))

-- each is
pub in-self : {A : Type 0} (xs : List A) → All (In xs) xs
in-self [] = tt
in-self (x ∷ xs) = (inl refl, all_map (In xs) (In (x ∷ xs)) xs (λ y h. inr h) (in-self xs))

-- of all, so of it
pub all_in : {A : Type 0} (P : A → Type 0) (xs : List A) → All P xs → (x : A) → In xs x → P x
all_in P [] a x h = absurd h
all_in P (y ∷ ys) a x (inl e) = subst P e a.0
all_in P (y ∷ ys) a x (inr h) = all_in P ys a.1 x h

-- in the first of two lists
pub in-first : {A : Type 0} (xs ys : List A) (x : A) → In xs x → In (xs ++ ys) x
in-first [] ys x h = absurd h
in-first (y ∷ xs) ys x (inl e) = inl e
in-first (y ∷ xs) ys x (inr h) = inr (in-first xs ys x h)

-- or in the second
pub in_rest : {A : Type 0} (xs ys : List A) (x : A) → In ys x → In (xs ++ ys) x
in_rest [] ys x h = h
in_rest (y ∷ xs) ys x h = inr (in_rest xs ys x h)

-- in what one gives, so in what each gives
pub in-each : {A B : Type 0} (f : A → List B) (xs : List A) (a : A) (b : B) → In xs a → In (f a) b → In (each f xs) b
unfolding each
in-each f [] a b h k = absurd h
in-each f (x ∷ xs) a b (inl e) k = in-first (f x) (each f xs) b (subst (λ (y : _). In (f y) b) (sym e) k)
in-each f (x ∷ xs) a b (inr h) k = in_rest (f x) (each f xs) b (in-each f xs a b h k)

-- it passes: it is kept
pub in-keep : {A : Type 0} (f : A → Bool) (xs : List A) (x : A) → In xs x → f x ≡ true → In (keep f xs) x
unfolding keep
in-keep f [] x h p = absurd h
in-keep f (y ∷ ys) x (inl e) p = rw (ap f e ∙ p) (inl e)
in-keep f (y ∷ ys) x (inr h) p = go (f y) (in-keep f ys x h p)
  where
    go : (b : Bool) → In (keep f ys) x → In (pick b (y ∷ keep f ys) (keep f ys)) x
    go true k = inr k
    go false k = k

-- and back
pub keep-in : {A : Type 0} (f : A → Bool) (xs : List A) (x : A) → In (keep f xs) x → In xs x × (f x ≡ true)
unfolding keep
keep-in f [] x h = absurd h
keep-in f (y ∷ ys) x h = go (f y) refl (keep-in f ys x) h
  where
    go : (b : Bool) → f y ≡ b → (In (keep f ys) x → In ys x × (f x ≡ true)) → In (pick b (y ∷ keep f ys) (keep f ys)) x → In (y ∷ ys) x × (f x ≡ true)
    go true e ih (inl q) = (inl q, ap f (sym q) ∙ e)
    go true e ih (inr k) = let w = ih k in (inr w.0, w.1)
    go false e ih k = let w = ih k in (inr w.0, w.1)

without-length : (x : ℕ) (ys : List ℕ) → Among ys x → length ys ≡ suc (length (without x ys))
without-length x [] h = absurd h
without-length x (y ∷ ys) h = go (same? y x) h (without-length x ys)
  where
    go : (y ≡ x) ⊎ (y ≡ x → ⊥) → (y ≡ x) ⊎ Among ys x → (Among ys x → length ys ≡ suc (length (without x ys)))
        → suc (length ys) ≡ suc (length (pick (eqb y x) ys (y ∷ without x ys)))
    go (inl e) a ih = rw (eq-eqb y x e) refl
    go (inr n) (inl e) ih = absurd (n e)
    go (inr n) (inr a) ih = rw (ne_eqb y x n) (ap suc (ih a))

without_other : (x : ℕ) (ys : List ℕ) (z : ℕ) → (x ≡ z → ⊥) → Among ys z → Among (without x ys) z
without_other x [] z n h = absurd h
without_other x (y ∷ ys) z n h = go (same? y x) h (without_other x ys z n)
  where
    go : (y ≡ x) ⊎ (y ≡ x → ⊥) → (y ≡ z) ⊎ Among ys z → (Among ys z → Among (without x ys) z) → Among (pick (eqb y x) ys (y ∷ without x ys)) z
    go (inl e) (inl q) ih = absurd (n (sym e ∙ q))
    go (inl e) (inr a) ih = rw (eq-eqb y x e) a
    go (inr m) (inl q) ih = rw (ne_eqb y x m) (inl q)
    go (inr m) (inr a) ih = rw (ne_eqb y x m) (inr (ih a))

-- LAW: numbers that differ, all of them among these, are no more than these
pub no_more : (xs ys : List ℕ) → Different xs → All (Among ys) xs → length xs ≤ length ys
no_more [] ys d a = zero-le
no_more (x ∷ xs) ys d a =
    let others : All (Among (without x ys)) xs
    = all_map (λ (z : ℕ). (x ≡ z → ⊥) × Among ys z) (Among (without x ys)) xs (λ z p. without_other x ys z p.0 p.1)
    (all_both (λ (z : ℕ). x ≡ z → ⊥) (Among ys) xs d.0 a.1) in
    let fewer = no_more xs (without x ys) d.1 others in
    let one = without-length x ys a.0 in
    omega arith
