-- Request P9, "taken by ascending masked lsn, equal ones by ascending slot": the order of the second kind, from outside; one file left out.
use Rattle.std.specs.Prelude.{◌≡◌, ◌⊎◌, ◌<◌, ◌≤◌, ◌∷◌}
use Rattle.std.proofs.Math.Path.{refl, sym, ap}
use Rattle.std.proofs.Common.{◌∙◌, inl, inr, arith}
use borrow.Author.Tests.{le-leb, leb-true, leb-false, eq-eqb, ne_eqb}
use Rattle.rules.specs.Base.{Bool, true, false, List, [], ℕ, leb, eqb, pick}
use Rattle.rules.specs.BaseLaws.{All}
use Rattle.rules.proofs.BaseLaws.{all_map, order, same?}
use Rattle.losses.specs.Salvage.{Sound, start_of, placed, in_order}
use Rattle.losses.specs.Starts.{all_placed, all-in-order}
use Rattle.losses.specs.Few.{order-length}
use Rattle.check_theory.specs.Lists.{In}
use Rattle.check_theory.proofs.Lists.{in-self, all_in}
use Rattle.salvage_theory.specs.InOrder.{Before, Ordered, BySlot, OneEach, without}

-- what stands before another does not start above it
pub before-start : (x y : Sound) → Before x y → start_of x ≤ start_of y
before-start x y (inl h) = omega arith
before-start x y (inr (e, h)) = omega arith

-- of a lower slot, and not above: it stands before
lower-before : (x y : Sound) → x.slot < y.slot → start_of x ≤ start_of y → Before x y
lower-before x y l h = go (order (start_of x) (start_of y))
  where
    go : (start_of x < start_of y) ⊎ ((start_of x ≡ start_of y) ⊎ (start_of y < start_of x)) → Before x y
    go (inl a) = inl a
    go (inr (inl e)) = inr (e, l)
    go (inr (inr a)) = absurd (omega arith)

-- ---- the same files
-- it is there, and so are the others
placed-there : (x : Sound) (ys : List Sound) (z : Sound) → (x ≡ z) ⊎ In ys z → In (placed x ys) z
unfolding placed
placed-there x [] z h = h
placed-there x (y ∷ ys) z h = go (leb (start_of x) (start_of y)) h (placed-there x ys z)
  where
    go : (b : Bool) → (x ≡ z) ⊎ In (y ∷ ys) z → ((x ≡ z) ⊎ In ys z → In (placed x ys) z) → In (pick b (x ∷ y ∷ ys) (y ∷ placed x ys)) z
    go true k ih = k
    go false (inl e) ih = inr (ih (inl e))
    go false (inr (inl e)) ih = inl e
    go false (inr (inr k)) ih = inr (ih (inr k))

-- LAW: the files in order are the rest: each of the rest is there
pub rest-in-order : (xs : List Sound) (z : Sound) → In xs z → In (in_order xs) z
unfolding in_order
rest-in-order [] z h = absurd h
rest-in-order (x ∷ xs) z (inl e) = placed-there x (in_order xs) z (inl e)
rest-in-order (x ∷ xs) z (inr h) = placed-there x (in_order xs) z (inr (rest-in-order xs z h))

-- LAW: no other is
pub in-order-rest : (xs : List Sound) (z : Sound) → In (in_order xs) z → In xs z
in-order-rest xs z h = all_in (In xs) (in_order xs) (all-in-order (In xs) xs (in-self xs)) z h

-- ---- ascending
placed-ordered : (x : Sound) (ys : List Sound) → All (λ (y : Sound). x.slot < y.slot) ys → Ordered ys → Ordered (placed x ys)
unfolding placed
placed-ordered x [] l o = (tt, tt)
placed-ordered x (y ∷ ys) l o = go (leb (start_of x) (start_of y)) refl (placed-ordered x ys l.1 o.1)
  where
    go : (b : Bool) → leb (start_of x) (start_of y) ≡ b → Ordered (placed x ys) → Ordered (pick b (x ∷ y ∷ ys) (y ∷ placed x ys))
    go true e ih =
        let h = leb-true (start_of x) (start_of y) e in
        ((lower-before x y l.0 h, later ys l.1 o.0), o)
      where
        later : (zs : List Sound) → All (λ (z : Sound). x.slot < z.slot) zs → All (Before y) zs → All (Before x) zs
        later [] p q = tt
        later (z ∷ zs) p q =
            let h = leb-true (start_of x) (start_of y) e in
            let k = before-start y z q.0 in
            (lower-before x z p.0 (omega arith), later zs p.1 q.1)
    go false e ih = let h = leb-false (start_of x) (start_of y) e in (all_placed (Before y) x ys (inl h) o.0, ih)

-- LAW: "by ascending masked lsn, equal ones by ascending slot"
pub order-ascends : (xs : List Sound) → BySlot xs → Ordered (in_order xs)
unfolding in_order
order-ascends [] s = tt
order-ascends (x ∷ xs) s = placed-ordered x (in_order xs) (all-in-order (λ (y : Sound). x.slot < y.slot) xs s.0) (order-ascends xs s.1)

placed-once : (x : Sound) (ys : List Sound) → All (λ (y : Sound). x.slot ≡ y.slot → ⊥) ys → OneEach ys → OneEach (placed x ys)
unfolding placed
placed-once x [] l o = (tt, tt)
placed-once x (y ∷ ys) l o = go (leb (start_of x) (start_of y)) (placed-once x ys l.1 o.1)
  where
    go : (b : Bool) → OneEach (placed x ys) → OneEach (pick b (x ∷ y ∷ ys) (y ∷ placed x ys))
    go true ih = (l, o)
    go false ih = (all_placed (λ (z : Sound). y.slot ≡ z.slot → ⊥) x ys (λ e. l.0 (sym e)) o.0, ih)

-- LAW: each slot once
pub order-once : (xs : List Sound) → BySlot xs → OneEach (in_order xs)
unfolding in_order
order-once [] s = tt
order-once (x ∷ xs) s =
    placed-once x (in_order xs)
    (all-in-order (λ (y : Sound). x.slot ≡ y.slot → ⊥) xs (all_map (λ (y : Sound). x.slot < y.slot) (λ (y : Sound). x.slot ≡ y.slot → ⊥) xs (λ y h e. omega arith) s.0))
    (order-once xs s.1)

pub without-here : (k : ℕ) (x : Sound) (xs : List Sound) → x.slot ≡ k → without k (x ∷ xs) ≡ without k xs
without-here k x xs e = rw (eq-eqb x.slot k e) refl

pub without_other : (k : ℕ) (x : Sound) (xs : List Sound) → (x.slot ≡ k → ⊥) → without k (x ∷ xs) ≡ x ∷ without k xs
without_other k x xs n = rw (ne_eqb x.slot k n) refl

-- none is of that slot
pub without-none : (k : ℕ) (xs : List Sound) → All (λ (x : Sound). x.slot ≡ k → ⊥) xs → without k xs ≡ xs
without-none k [] a = refl
without-none k (x ∷ xs) a = without_other k x xs a.0 ∙ ap (λ (ys : List Sound). x ∷ ys) (without-none k xs a.1)

without_all : (P : Sound → Type 0) (k : ℕ) (xs : List Sound) → All P xs → All P (without k xs)
without_all P k [] a = tt
without_all P k (x ∷ xs) a = go (eqb x.slot k) (without_all P k xs a.1)
  where
    go : (b : Bool) → All P (without k xs) → All P (pick b (without k xs) (x ∷ without k xs))
    go true ih = ih
    go false ih = (a.0, ih)

-- it starts above none: it goes first
placed_first : (x : Sound) (ys : List Sound) → All (λ (y : Sound). start_of x ≤ start_of y) ys → placed x ys ≡ x ∷ ys
unfolding placed
placed_first x [] a = refl
placed_first x (y ∷ ys) a = rw (le-leb (start_of x) (start_of y) a.0) refl

module _ (k : ℕ) (x : Sound) where
  placed-without-here : (ys : List Sound) → x.slot ≡ k → without k (placed x ys) ≡ without k ys
  unfolding placed
  placed-without-here [] e = without-here k x [] e
  placed-without-here (y ∷ ys) e = go (leb (start_of x) (start_of y)) (placed-without-here ys e)
    where
      go : (b : Bool) → without k (placed x ys) ≡ without k ys → without k (pick b (x ∷ y ∷ ys) (y ∷ placed x ys)) ≡ without k (y ∷ ys)
      go true ih = without-here k x (y ∷ ys) e
      go false ih = ap (λ (zs : List Sound). pick (eqb y.slot k) zs (y ∷ zs)) ih

  placed-without-other : (ys : List Sound) → (x.slot ≡ k → ⊥) → Ordered ys → without k (placed x ys) ≡ placed x (without k ys)
  unfolding placed
  placed-without-other [] n o = without_other k x [] n
  placed-without-other (y ∷ ys) n o = go (leb (start_of x) (start_of y)) refl (placed-without-other ys n o.1)
    where
      go : (b : Bool) → leb (start_of x) (start_of y) ≡ b → without k (placed x ys) ≡ placed x (without k ys)
          → without k (pick b (x ∷ y ∷ ys) (y ∷ placed x ys)) ≡ placed x (without k (y ∷ ys))
      go true e ih =
          let h = leb-true (start_of x) (start_of y) e in
          let above : All (λ (z : Sound). start_of x ≤ start_of z) ys = all_map (Before y) (λ (z : Sound). start_of x ≤ start_of z) ys (λ z b. let s = before-start y z b in omega arith) o.0 in
          without_other k x (y ∷ ys) n ∙ sym (placed_first x (without k (y ∷ ys)) (without_all (λ (z : Sound). start_of x ≤ start_of z) k (y ∷ ys) (h, above)))
      go false e ih = by (same? y.slot k)
        where
          by : (y.slot ≡ k) ⊎ (y.slot ≡ k → ⊥) → without k (y ∷ placed x ys) ≡ placed x (without k (y ∷ ys))
          by (inl q) = without-here k y (placed x ys) q ∙ ih ∙ ap (placed x) (sym (without-here k y ys q))
          by (inr q) =
              without_other k y (placed x ys) q ∙ ap (λ (zs : List Sound). y ∷ zs) ih
              ∙ ap (λ (b : Bool). pick b (x ∷ y ∷ without k ys) (y ∷ placed x (without k ys))) (sym e) ∙ ap (placed x) (sym (without_other k y ys q))

-- LAW: a file left out: the others stay in order
pub order-without : (k : ℕ) (xs : List Sound) → BySlot xs → without k (in_order xs) ≡ in_order (without k xs)
unfolding in_order
order-without k [] s = refl
order-without k (x ∷ xs) s = go (same? x.slot k) (order-without k xs s.1)
  where
    go : (x.slot ≡ k) ⊎ (x.slot ≡ k → ⊥) → without k (in_order xs) ≡ in_order (without k xs) → without k (placed x (in_order xs)) ≡ in_order (without k (x ∷ xs))
    go (inl e) ih = placed-without-here k x (in_order xs) e ∙ ih ∙ ap in_order (sym (without-here k x xs e))
    go (inr n) ih = placed-without-other k x (in_order xs) n (order-ascends xs s.1) ∙ ap (placed x) ih ∙ ap in_order (sym (without_other k x xs n))
