-- How many entries of a table have a location that passes a test.
use Rattle.std.specs.Prelude.{◌≡◌, refl, ◌⊎◌, ◌<◌, ◌≤◌, ◌∷◌, ◌+◌}
use Rattle.std.proofs.Common.{sym, ap, ◌∙◌, inl, inr, arith}
use Rattle.rules.specs.Base.{Bool, true, false, List, [], ℕ, suc, length, keep, pick}
use Rattle.theory.specs.Types.{Entry}
use Rattle.rules.specs.Table.{lookup, insert}
use Rattle.disk_location.specs.Locations.{bit_of}
use Rattle.rules.proofs.BaseLaws.{order}
use Rattle.rules.specs.TableLaws.{Rising, rise, Has}
use Rattle.rules.proofs.TableLaws.{lookup-here, lookup-next, insert-next, insert-here, insert-before, lookup-below}
use Rattle.theory.specs.Counting.{count, had}

-- one entry more
pub count-cons : (p : ℕ → Bool) (e : Entry) (t : List Entry) → count p (e ∷ t) ≡ bit_of (p e.location) + count p t
unfolding keep
count-cons p e t = go (p e.location)
  where
    go : (b : Bool) → length (pick b (e ∷ keep (λ (d : Entry). p d.location) t) (keep (λ (d : Entry). p d.location) t)) ≡ bit_of b + count p t
    go true = omega arith
    go false = omega arith

-- none of none
pub count-nil : (p : ℕ → Bool) → count p [] ≡ 0
unfolding keep
count-nil p = refl

-- a store takes the old location's share away and adds the new one's
pub count-insert : (f : ℕ) (p : ℕ → Bool) (t : List Entry) → Rising f t → (n : Entry)
    → count p (insert t n) + had p (lookup t n.id) ≡ count p t + bit_of (p n.location)
unfolding lookup insert
count-insert f p [] r n = rw (count-cons p n [], count-nil p) (omega arith)
count-insert f p (e ∷ t) (rise a r) n = go (count-insert (suc e.id) p t r n) (order e.id n.id)
  where
    go : count p (insert t n) + had p (lookup t n.id) ≡ count p t + bit_of (p n.location) → (e.id < n.id) ⊎ ((e.id ≡ n.id) ⊎ (n.id < e.id))
        → count p (insert (e ∷ t) n) + had p (lookup (e ∷ t) n.id) ≡ count p (e ∷ t) + bit_of (p n.location)
    go ih (inl q) =
        rw (insert-next e t n q, lookup-next e t n.id (λ z. omega arith), count-cons p e (insert t n), count-cons p e t) (omega arith)
    go ih (inr (inl q)) = rw (insert-here e t n q, lookup-here e t n.id q, count-cons p n t, count-cons p e t) (omega arith)
    go ih (inr (inr q)) =
        rw (insert-before e t n q, lookup-next e t n.id (λ z. omega arith), lookup-below (suc e.id) t r n.id (omega arith), count-cons p n (e ∷ t))
        (omega arith)

-- tests that agree on the table
pub count_same : (p q : ℕ → Bool) (t : List Entry) → ((x l : ℕ) → Has t x l → p l ≡ q l) → count p t ≡ count q t
count_same p q [] h = count-nil p ∙ sym (count-nil q)
count_same p q (e ∷ t) h =
    let a : bit_of (p e.location) ≡ bit_of (q e.location) = ap bit_of (h e.id e.location (inl (refl, refl))) in
    let b : count p t ≡ count q t = count_same p q t (λ x l m. h x l (inr m)) in
    let c = count-cons p e t in
    let d = count-cons q e t in
    omega arith

-- none passes
pub count_none : (p : ℕ → Bool) (t : List Entry) → ((x l : ℕ) → Has t x l → p l ≡ false) → count p t ≡ 0
count_none p [] h = count-nil p
count_none p (e ∷ t) h =
    let a : bit_of (p e.location) ≡ 0 = ap bit_of (h e.id e.location (inl (refl, refl))) in
    let b : count p t ≡ 0 = count_none p t (λ x l m. h x l (inr m)) in
    let c = count-cons p e t in
    omega arith

-- one that passes
pub count-has : (p : ℕ → Bool) (t : List Entry) (x l : ℕ) → Has t x l → p l ≡ true → 0 < count p t
count-has p [] x l h q = absurd h
count-has p (e ∷ t) x l (inl (a, b)) q =
    let z : bit_of (p e.location) ≡ 1 = ap bit_of (ap p b ∙ q) in
    let c = count-cons p e t in
    omega arith
count-has p (e ∷ t) x l (inr h) q = let z = count-has p t x l h q in let c = count-cons p e t in omega arith

-- no more than the table has
pub count-le : (p : ℕ → Bool) (t : List Entry) → count p t ≤ length t
count-le p [] = let c = count-nil p in omega arith
count-le p (e ∷ t) = let h = count-le p t in let b = bit_le (p e.location) in let c = count-cons p e t in omega arith
  where
    bit_le : (b : Bool) → bit_of b ≤ 1
    bit_le true = omega arith
    bit_le false = omega arith
