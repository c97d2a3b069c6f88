-- Counting ids: a settled list against a table, and the ids in some files' ranges file by file.
use Rattle.std.specs.Prelude.{◌≡◌, refl, ◌⊎◌, ◌<◌, ◌||◌, ◌∷◌, ◌++◌, ◌+◌}
use Rattle.std.proofs.Common.{sym, ap, ◌∙◌, true≢false, inl, inr, arith, eq-eqb, ne_eqb}
use Rattle.rules.specs.Base.{Bool, true, false, List, [], ℕ, suc, length, pick, any, keep, sum}
use Rattle.theory.specs.Types.{Entry}
use Rattle.disk_location.specs.Locations.{bit_of}
use Rattle.rules.specs.BaseLaws.{All}
use Rattle.rules.proofs.BaseLaws.{order, same?, or-clear}
use Rattle.rules.specs.Ops.{Op}
use Rattle.rules.specs.OpsLaws.{RisingOps, ops-rise}
use Rattle.rules.specs.SettledLaws.{Last, silent, last, or_earlier, said_by, last_on}
use Rattle.rules.proofs.SettledLaws.{last-below, last-append}
use Rattle.rules.specs.Table.{lookup, unmapped}
use Rattle.rules.specs.TableLaws.{Rising, rise, Has}
use Rattle.rules.proofs.TableLaws.{lookup-next, lookup-below, rising-has}
use Rattle.theory.specs.Counting.{count}
use Rattle.theory.proofs.Counting.{count-cons, count-nil}
use Rattle.theory.proofs.Lists.{every}
use Rattle.maintenance_theory.specs.Tally.{known, heard_in, Ascending}

-- in one of two lists
pub heard-append : (xs ys : List Op) (x : ℕ) → heard_in (xs ++ ys) x ≡ (heard_in ys x || heard_in xs x)
heard-append xs ys x = ap known (last-append xs ys x) ∙ go (last_on ys x) (last_on xs x)
  where
    go : (a b : Last) → known (or_earlier a b) ≡ (known a || known b)
    go silent b = refl
    go (last c) b = refl

-- in the first or the rest
pub heard-cons : (o : Op) (os : List Op) (x : ℕ) → (o.id ≡ x) ⊎ (heard_in os x ≡ true) → heard_in (o ∷ os) x ≡ true
unfolding last_on
heard-cons o os x h = go (last_on os x) refl h
  where
    go : (l : Last) → last_on os x ≡ l → (o.id ≡ x) ⊎ (heard_in os x ≡ true) → known (or_earlier l (said_by o x)) ≡ true
    go (last c) e h = refl
    go silent e (inl q) = rw (eq-eqb o.id x q) refl
    go silent e (inr q) = absurd (true≢false (sym q ∙ ap known e))

heard-least : (f : ℕ) (os : List Op) → RisingOps f os → (x : ℕ) → heard_in os x ≡ true → x < f → ⊥
heard-least f os r x h l = true≢false (sym h ∙ ap known (last-below f os r x l))

-- not in the first, so in the rest
pub heard-later : (o : Op) (os : List Op) (x : ℕ) → (o.id ≡ x → ⊥) → heard_in (o ∷ os) x ≡ heard_in os x
unfolding last_on
heard-later o os x n = rw (ne_eqb o.id x n) (go (last_on os x))
  where
    go : (l : Last) → known (or_earlier l silent) ≡ known l
    go silent = refl
    go (last c) = refl

-- ---- entries kept by their ids
keep-cons : (p : Entry → Bool) (e : Entry) (t : List Entry) → length (keep p (e ∷ t)) ≡ bit_of (p e) + length (keep p t)
unfolding keep
keep-cons p e t = go (p e)
  where
    go : (b : Bool) → length (pick b (e ∷ keep p t) (keep p t)) ≡ bit_of b + length (keep p t)
    go true = omega arith
    go false = omega arith

keep-nil : (p : Entry → Bool) → length (keep p []) ≡ 0
unfolding keep
keep-nil p = refl

-- tests that agree on the table
pub keep_same : (p q : Entry → Bool) (t : List Entry) → ((x l : ℕ) → Has t x l → p (record { id = x; location = l }) ≡ q (record { id = x; location = l })) → length (keep p t) ≡ length (keep q t)
keep_same p q [] h = keep-nil p ∙ sym (keep-nil q)
keep_same p q (e ∷ t) h =
    let a : bit_of (p e) ≡ bit_of (q e) = ap bit_of (h e.id e.location (inl (refl, refl))) in
    let b = keep_same p q t (λ x l m. h x l (inr m)) in
    let c = keep-cons p e t in
    let d = keep-cons q e t in
    omega arith

nought : (x : ℕ) → bit_of (heard_in [] x) ≡ 0
unfolding last_on
nought x = refl

-- LAW: operations in order, all of whose ids a table has, are as many as the table's ids among them
pub count-heard : (f g : ℕ) (t : List Entry) (os : List Op) → Rising g t → RisingOps f os → ((x : ℕ) → heard_in os x ≡ true → unmapped (lookup t x) ≡ false)
    → length os ≡ length (keep (λ (e : Entry). heard_in os e.id) t)
unfolding lookup
count-heard f g [] [] r s h = sym (keep-nil _)
count-heard f g [] (o ∷ os) r s h = absurd (true≢false (h o.id (heard-cons o os o.id (inl refl))))
count-heard f g (e ∷ t) [] (rise a r) s h =
    let i = count-heard f (suc e.id) t [] r s (λ x q. absurd (none x q)) in
    let c = keep-cons (λ (d : Entry). heard_in [] d.id) e t in
    let b : bit_of (heard_in [] e.id) ≡ 0 = nought e.id in
    omega arith
  where
    none : (x : ℕ) → heard_in [] x ≡ true → ⊥
    none x q = let z = nought x in let y : bit_of (heard_in [] x) ≡ 1 = ap bit_of q in omega arith
count-heard f g (e ∷ t) (o ∷ os) (rise a r) (ops-rise b s) h =
    go (order o.id e.id) (λ u v. count-heard (suc o.id) (suc e.id) t os r s u) (λ u v. count-heard f (suc e.id) t (o ∷ os) r (ops-rise b s) u)
  where
    still : (x : ℕ) → e.id < x → unmapped (lookup (e ∷ t) x) ≡ false → unmapped (lookup t x) ≡ false
    still x l u = sym (ap unmapped (lookup-next e t x (λ q. omega arith))) ∙ u

    go : (o.id < e.id) ⊎ ((o.id ≡ e.id) ⊎ (e.id < o.id))
        → (((x : ℕ) → heard_in os x ≡ true → unmapped (lookup t x) ≡ false) → o.id ≡ e.id → length os ≡ length (keep (λ (d : Entry). heard_in os d.id) t))
        → (((x : ℕ) → heard_in (o ∷ os) x ≡ true → unmapped (lookup t x) ≡ false) → e.id < o.id → length (o ∷ os) ≡ length (keep (λ (d : Entry). heard_in (o ∷ os) d.id) t))
        → length (o ∷ os) ≡ length (keep (λ (d : Entry). heard_in (o ∷ os) d.id) (e ∷ t))
    go (inl l) i j =
        absurd (true≢false (sym (ap unmapped (lookup-below (suc o.id) (e ∷ t) (rise l r) o.id (omega arith))) ∙ h o.id (heard-cons o os o.id (inl refl))))
    go (inr (inl q)) i j =
        let u = i (λ x k. let w = later x k in still x (omega arith) (h x (heard-cons o os x (inr k)))) q in
        let c = keep-cons (λ (d : Entry). heard_in (o ∷ os) d.id) e t in
        let d : bit_of (heard_in (o ∷ os) e.id) ≡ 1 = ap bit_of (heard-cons o os e.id (inl q)) in
        let v = keep_same (λ (d : Entry). heard_in (o ∷ os) d.id) (λ (d : Entry). heard_in os d.id) t
        (λ x l m. heard-later o os x (λ z. let w = rising-has (suc e.id) t r x l m in omega arith)) in
        omega arith
      where
        later : (x : ℕ) → heard_in os x ≡ true → o.id < x
        later x k = above (order o.id x)
          where
            above : (o.id < x) ⊎ ((o.id ≡ x) ⊎ (x < o.id)) → o.id < x
            above (inl l) = l
            above (inr (inl l)) = absurd (heard-least (suc o.id) os s x k (omega arith))
            above (inr (inr l)) = absurd (heard-least (suc o.id) os s x k (omega arith))
    go (inr (inr l)) i j =
        let u = j (λ x k. still x (least x k) (h x k)) l in
        let c = keep-cons (λ (d : Entry). heard_in (o ∷ os) d.id) e t in
        let d : bit_of (heard_in (o ∷ os) e.id) ≡ 0 = ap (λ (n : Last). bit_of (known n)) (last-below o.id (o ∷ os) (ops-rise (omega arith) s) e.id l) in
        omega arith
      where
        least : (x : ℕ) → heard_in (o ∷ os) x ≡ true → e.id < x
        least x k = above (order e.id x)
          where
            above : (e.id < x) ⊎ ((e.id ≡ x) ⊎ (x < e.id)) → e.id < x
            above (inl m) = m
            above (inr (inl m)) = absurd (heard-least o.id (o ∷ os) (ops-rise (omega arith) s) x k (omega arith))
            above (inr (inr m)) = absurd (heard-least o.id (o ∷ os) (ops-rise (omega arith) s) x k (omega arith))

sum-add : (f g : ℕ → ℕ) (ks : List ℕ) → sum (λ (k : ℕ). f k + g k) ks ≡ sum f ks + sum g ks
unfolding sum
sum-add f g [] = refl
sum-add f g (k ∷ ks) = let i = sum-add f g ks in omega arith

sum-zero : (ks : List ℕ) (f : ℕ → ℕ) → ((k : ℕ) → f k ≡ 0) → sum f ks ≡ 0
unfolding sum
sum-zero [] f h = refl
sum-zero (k ∷ ks) f h = let i = sum-zero ks f h in let z = h k in omega arith

-- summands that agree
pub sum_same : (f g : ℕ → ℕ) (ks : List ℕ) → All (λ (k : ℕ). f k ≡ g k) ks → sum f ks ≡ sum g ks
unfolding sum
sum_same f g [] h = refl
sum_same f g (k ∷ ks) h = let i = sum_same f g ks h.1 in let z = h.0 in omega arith

-- past slot j none passes
any-past : (p : ℕ → Bool) (j n : ℕ) (ks : List ℕ) → j < n → Ascending n ks → ((k : ℕ) → (k ≡ j → ⊥) → p k ≡ false) → any p ks ≡ false
unfolding any
any-past p j n [] l a h = refl
any-past p j n (k ∷ ks) l a h = let b = a.0 in or-clear (p k) (any p ks) (h k (λ z. omega arith)) (any-past p j (suc k) ks (omega arith) a.1 h)

-- one slot j at most passes: the sum counts it once, or not at all
only_one : (i : ℕ) (ks : List ℕ) → Ascending i ks → (p : ℕ → Bool) (j : ℕ) → ((k : ℕ) → (k ≡ j → ⊥) → p k ≡ false) → sum (λ (k : ℕ). bit_of (p k)) ks ≡ bit_of (any p ks)
unfolding sum any
only_one i [] a p j h = refl
only_one i (k ∷ ks) a p j h = go (only_one (suc k) ks a.1 p j h) (p k) refl (same? k j)
  where
    go : sum (λ (k : ℕ). bit_of (p k)) ks ≡ bit_of (any p ks) → (b : Bool) → p k ≡ b → (k ≡ j) ⊎ (k ≡ j → ⊥) → bit_of (p k) + sum (λ (k : ℕ). bit_of (p k)) ks ≡ bit_of (p k || any p ks)
    go ih true e (inr n) = absurd (true≢false (sym e ∙ h k n))
    go ih true e (inl q) =
        let z : any p ks ≡ false = any-past p j (suc k) ks (omega arith) a.1 h in
        let y : bit_of (any p ks) ≡ 0 = ap bit_of z in
        rw e (omega arith)
    go ih false e q = rw e (omega arith)

-- LAW: the entries in some slots' ranges, counted slot by slot
pub count-slots : (i : ℕ) (ks : List ℕ) → Ascending i ks → (p : ℕ → ℕ → Bool) (t : List Entry)
    → ((x l : ℕ) → Has t x l → (j : ℕ) × ((k : ℕ) → (k ≡ j → ⊥) → p k l ≡ false))
    → sum (λ (k : ℕ). count (p k) t) ks ≡ count (λ (l : ℕ). any (λ (k : ℕ). p k l) ks) t
count-slots i ks a p [] h = sum-zero ks (λ (k : ℕ). count (p k) []) (λ k. count-nil (p k)) ∙ sym (count-nil (λ (l : ℕ). any (λ (k : ℕ). p k l) ks))
count-slots i ks a p (e ∷ t) h =
    let w = h e.id e.location (inl (refl, refl)) in
    let ih = count-slots i ks a p t (λ x l m. h x l (inr m)) in
    let c = count-cons (λ (l : ℕ). any (λ (k : ℕ). p k l) ks) e t in
    let o = only_one i ks a (λ (k : ℕ). p k e.location) w.0 w.1 in
    let d = sum-add (λ (k : ℕ). bit_of (p k e.location)) (λ (k : ℕ). count (p k) t) ks in
    sum_same (λ (k : ℕ). count (p k) (e ∷ t)) (λ (k : ℕ). bit_of (p k e.location) + count (p k) t) ks (every _ ks (λ k. count-cons (p k) e t)) ∙ d ∙ omega arith
