-- "Refusal numbers": "Each is given exactly when its condition holds and no earlier one in the call's order does."
use Rattle.rules.specs.Base.{Bool, true, false, List, [], ℕ}
use Rattle.rules.specs.Types.{Refusal, Answer}
use Rattle.std.specs.Prelude.{◌≡◌, refl, ◌⊎◌, ◌∷◌, ◌++◌, Err, Ok}
use Rattle.std.proofs.Common.{ap, inl, inr, arith}
use Rattle.rules.specs.Refusal.{Test, ◌gives◌, decide, after, NoneHolds, Given-at}

-- no condition holds: done
pub decide-clear : (ts : List Test) → NoneHolds ts → decide ts ≡ Ok tt
unfolding decide NoneHolds
decide-clear [] n = refl
decide-clear (b gives r ∷ ts) n = rw n.0 (decide-clear ts n.1)

-- none of the first holds: the others decide
pub decide-append : (xs ys : List Test) → NoneHolds xs → decide (xs ++ ys) ≡ decide ys
unfolding decide NoneHolds
decide-append [] ys n = refl
decide-append (b gives r ∷ ts) ys n = rw n.0 (decide-append ts ys n.1)

-- none of two lists holds
pub none-append : (xs ys : List Test) → NoneHolds xs → NoneHolds ys → NoneHolds (xs ++ ys)
unfolding NoneHolds
none-append [] ys n m = m
none-append (b gives r ∷ ts) ys n m = (n.0, none-append ts ys n.1 m)

-- so none of the first
pub none_first : (xs ys : List Test) → NoneHolds (xs ++ ys) → NoneHolds xs
unfolding NoneHolds
none_first [] ys n = tt
none_first (b gives r ∷ ts) ys n = (n.0, none_first ts ys n.1)

-- nor of the second
pub none_rest : (xs ys : List Test) → NoneHolds (xs ++ ys) → NoneHolds ys
unfolding NoneHolds
none_rest [] ys n = n
none_rest (b gives r ∷ ts) ys n = none_rest ts ys n.1

-- its condition holds and no earlier one does: it is given
pub given-when : (earlier : List Test) (r : Refusal) (later : List Test) → NoneHolds earlier → decide (earlier ++ (true gives r ∷ later)) ≡ Err r
unfolding decide
given-when earlier r later n = decide-append earlier (true gives r ∷ later) n

-- it is given only so
pub only-when : (ts : List Test) (r : Refusal) → decide ts ≡ Err r → Given-at ts r
unfolding decide NoneHolds
only-when [] r e = absurd (let z : ◌≡◌ {A = ℕ} 0 1 = cc in omega arith)
only-when (true gives q ∷ ts) r e = record { earlier = []; later = ts; here = ap (λ (x : Refusal). true gives x ∷ ts) (cc); none = tt }
only-when (false gives q ∷ ts) r e =
    let w = only-when ts r e in
    record { earlier = false gives q ∷ w.earlier; later = w.later; here = ap (λ (x : List Test). false gives q ∷ x) w.here; none = (refl, w.none) }

-- done: no condition holds
pub clear-when : (ts : List Test) → decide ts ≡ Ok tt → NoneHolds ts
unfolding decide NoneHolds
clear-when [] e = tt
clear-when (true gives q ∷ ts) e = absurd (let z : ◌≡◌ {A = ℕ} 0 1 = cc in omega arith)
clear-when (false gives q ∷ ts) e = (refl, clear-when ts e)

-- ---- the steps that code takes
pub decide-none : decide [] ≡ Ok tt
unfolding decide
decide-none = refl

-- the first condition holds: its refusal
pub decide-first : (b : Bool) (r : Refusal) (ts : List Test) → b ≡ true → decide (b gives r ∷ ts) ≡ Err r
unfolding decide
decide-first b r ts e = rw e

-- it does not: the rest decides
pub decide-next : (b : Bool) (r : Refusal) (ts : List Test) → b ≡ false → decide (b gives r ∷ ts) ≡ decide ts
unfolding decide
decide-next b r ts e = rw e

-- a first part that refuses decides
pub decide-early : (xs ys : List Test) (r : Refusal) → decide xs ≡ Err r → decide (xs ++ ys) ≡ Err r
unfolding decide
decide-early [] ys r e = absurd (let z : ◌≡◌ {A = ℕ} 0 1 = cc in omega arith)
decide-early (true gives q ∷ xs) ys r e = e
decide-early (false gives q ∷ xs) ys r e = decide-early xs ys r e

-- one that clears leaves it to the rest
pub decide-late : (xs ys : List Test) → decide xs ≡ Ok tt → decide (xs ++ ys) ≡ decide ys
decide-late xs ys e = decide-append xs ys (clear-when xs e)

-- what follows a refusal, and what follows none
pub after-refused : {A : Type 0} (a : Answer) (r : Refusal) (refused : Refusal → A) (accepted : A) → a ≡ Err r → after a refused accepted ≡ refused r
after-refused a r refused accepted e = rw e

-- none: what is accepted
pub after-done : {A : Type 0} (a : Answer) (refused : Refusal → A) (accepted : A) → a ≡ Ok tt → after a refused accepted ≡ accepted
after-done a refused accepted e = rw e

-- by cases on an answer
pub done-or-refused : (a : Answer) → (a ≡ Ok tt) ⊎ ((r : Refusal) × (a ≡ Err r))
done-or-refused (Ok _) = inl refl
done-or-refused (Err r) = inr (r, refl)
