-- "The last operation on an id counts."
use Rattle.std.specs.Prelude.{◌≡◌, refl, ◌⊎◌, ◌≤◌, ◌<◌, ◌∷◌, ◌++◌}
use Rattle.std.proofs.Common.{sym, ap, ◌∙◌, inl, inr, zero-le, arith}
use borrow.Author.Tests.{lt-ltb, le-ltb, eq-eqb, ne_eqb}
use Rattle.rules.specs.Base.{List, [], ℕ, suc}
use Rattle.rules.specs.BaseLaws.{All}
use Rattle.rules.proofs.BaseLaws.{order, same?}
use Rattle.rules.specs.Ops.{Content, Op, joined, settled}
use Rattle.rules.specs.OpsLaws.{RisingOps, ops-end, ops-rise}
use Rattle.rules.specs.SettledLaws.{Last, silent, last, or_earlier, said_by, last_on}

-- ---- the clauses of joined, by facts in the place of tests
module _ (o p : Op) (ps : List Op) where
  -- before later ids
  pub joined-before : o.id < p.id → joined o (p ∷ ps) ≡ o ∷ p ∷ ps
  unfolding joined
  joined-before h = rw (lt-ltb o.id p.id h)

  -- overridden
  pub joined_same : o.id ≡ p.id → joined o (p ∷ ps) ≡ p ∷ ps
  unfolding joined
  joined_same h = rw (le-ltb o.id p.id (omega arith), eq-eqb o.id p.id h)

  -- behind earlier ids
  pub joined-later : p.id < o.id → joined o (p ∷ ps) ≡ p ∷ joined o ps
  unfolding joined
  joined-later h = rw (le-ltb o.id p.id (omega arith), ne_eqb o.id p.id (λ e. omega arith))

-- alone
pub joined-none : (o : Op) → joined o [] ≡ o ∷ []
unfolding joined
joined-none o = refl

-- ---- ids strictly rise
pub joined-rising : (f : ℕ) (o : Op) (ps : List Op) → f ≤ o.id → RisingOps f ps → RisingOps f (joined o ps)
unfolding joined
joined-rising f o [] low r = ops-rise low ops-end
joined-rising f o (p ∷ ps) low (ops-rise a r) = go (λ h. joined-rising (suc p.id) o ps h r) (order o.id p.id)
  where
    go : (p.id < o.id → RisingOps (suc p.id) (joined o ps)) → (o.id < p.id) ⊎ ((o.id ≡ p.id) ⊎ (p.id < o.id)) → RisingOps f (joined o (p ∷ ps))
    go ih (inl h) = rw (joined-before o p ps h) (ops-rise low (ops-rise h r))
    go ih (inr (inl h)) = rw (joined_same o p ps h) (ops-rise a r)
    go ih (inr (inr h)) = rw (joined-later o p ps h) (ops-rise a (ih h))

-- "ids ascending", each once
pub settled-rising : (ops : List Op) → RisingOps 0 (settled ops)
unfolding settled
settled-rising [] = ops-end
settled-rising (o ∷ os) = joined-rising 0 o (settled os) zero-le (settled-rising os)

-- ---- the last operation on each id
-- of another id an operation says nothing
pub said-other : (o : Op) (x : ℕ) → (o.id ≡ x → ⊥) → said_by o x ≡ silent
said-other o x h = rw (ne_eqb o.id x h)

-- nothing said before
pub or-silent : (l : Last) → or_earlier l silent ≡ l
or-silent silent = refl
or-silent (last c) = refl

-- of three, the latest word that there is
pub or_assoc : (a b c : Last) → or_earlier a (or_earlier b c) ≡ or_earlier (or_earlier a b) c
or_assoc (last x) b c = refl
or_assoc silent b c = refl

-- one list of operations behind the other
pub last-append : (xs ys : List Op) (x : ℕ) → last_on (xs ++ ys) x ≡ or_earlier (last_on ys x) (last_on xs x)
unfolding last_on
last-append [] ys x = sym (or-silent (last_on ys x))
last-append (o ∷ xs) ys x = ap (λ (l : Last). or_earlier l (said_by o x)) (last-append xs ys x) ∙ sym (or_assoc (last_on ys x) (last_on xs x) (said_by o x))

-- of two words on x at most one is not silent: their order does not matter
or_swap : (l : Last) (o p : Op) (x : ℕ) → (o.id ≡ p.id → ⊥) → or_earlier (or_earlier l (said_by o x)) (said_by p x) ≡ or_earlier (or_earlier l (said_by p x)) (said_by o x)
or_swap l o p x apart = go (same? o.id x)
  where
    go : (o.id ≡ x) ⊎ (o.id ≡ x → ⊥) → or_earlier (or_earlier l (said_by o x)) (said_by p x) ≡ or_earlier (or_earlier l (said_by p x)) (said_by o x)
    go (inl e) = simp (said-other p x (λ q. apart (e ∙ sym q)), or-silent)
    go (inr n) = simp (said-other o x n, or-silent)

-- a word that stands is not changed by an earlier one
or-stays : (l : Last) (o p : Op) (x : ℕ) → o.id ≡ p.id → or_earlier l (said_by p x) ≡ or_earlier (or_earlier l (said_by p x)) (said_by o x)
or-stays (last c) o p x e = refl
or-stays silent o p x e = go (same? p.id x)
  where
    go : (p.id ≡ x) ⊎ (p.id ≡ x → ⊥) → said_by p x ≡ or_earlier (said_by p x) (said_by o x)
    go (inl q) = rw (eq-eqb p.id x q)
    go (inr n) = rw (said-other p x n, said-other o x (λ q. n (sym e ∙ q)))

joined-last : (o : Op) (ps : List Op) (x : ℕ) → last_on (joined o ps) x ≡ last_on (o ∷ ps) x
unfolding joined last_on
joined-last o [] x = refl
joined-last o (p ∷ ps) x = go (joined-last o ps x) (order o.id p.id)
  where
    go : last_on (joined o ps) x ≡ or_earlier (last_on ps x) (said_by o x) → (o.id < p.id) ⊎ ((o.id ≡ p.id) ⊎ (p.id < o.id))
        → last_on (joined o (p ∷ ps)) x ≡ or_earlier (or_earlier (last_on ps x) (said_by p x)) (said_by o x)
    go ih (inl h) = rw (joined-before o p ps h)
    go ih (inr (inl h)) = rw (joined_same o p ps h) (or-stays (last_on ps x) o p x h)
    go ih (inr (inr h)) = rw (joined-later o p ps h) (ap (λ (l : Last). or_earlier l (said_by p x)) ih ∙ or_swap (last_on ps x) o p x (λ e. omega arith))

-- "The last operation on an id counts."
pub settled-last : (ops : List Op) (x : ℕ) → last_on (settled ops) x ≡ last_on ops x
unfolding settled last_on
settled-last [] x = refl
settled-last (o ∷ os) x = joined-last o (settled os) x ∙ ap (λ (l : Last). or_earlier l (said_by o x)) (settled-last os x)

-- operations that rise already are settled
pub settled_same : (f : ℕ) (ops : List Op) → RisingOps f ops → settled ops ≡ ops
unfolding settled
settled_same f [] r = refl
settled_same f (o ∷ os) (ops-rise a r) = ap (joined o) (settled_same (suc o.id) os r) ∙ front o os r
  where
    front : (o : Op) (os : List Op) → RisingOps (suc o.id) os → joined o os ≡ o ∷ os
    front o [] r = joined-none o
    front o (p ∷ ps) (ops-rise h r) = joined-before o p ps h

-- what holds of every operation holds of those that count
joined-all : (P : Op → Type 0) (o : Op) (ps : List Op) → P o → All P ps → All P (joined o ps)
unfolding joined
joined-all P o [] h a = (h, tt)
joined-all P o (p ∷ ps) h a = go (joined-all P o ps h a.1) (order o.id p.id)
  where
    go : All P (joined o ps) → (o.id < p.id) ⊎ ((o.id ≡ p.id) ⊎ (p.id < o.id)) → All P (joined o (p ∷ ps))
    go ih (inl l) = rw (joined-before o p ps l) (h, a)
    go ih (inr (inl e)) = rw (joined_same o p ps e) a
    go ih (inr (inr l)) = rw (joined-later o p ps l) (a.0, ih)

-- for a whole list
pub settled-all : (P : Op → Type 0) (ops : List Op) → All P ops → All P (settled ops)
unfolding settled
settled-all P [] a = a
settled-all P (o ∷ os) a = joined-all P o (settled os) a.0 (settled-all P os a.1)

-- ---- only one rising list says so
last-next : (o : Op) (os : List Op) (x : ℕ) → (o.id ≡ x → ⊥) → last_on (o ∷ os) x ≡ last_on os x
unfolding last_on
last-next o os x n = rw (said-other o x n) (or-silent (last_on os x))

-- nothing is said of an id below the least one
pub last-below : (f : ℕ) (os : List Op) → RisingOps f os → (x : ℕ) → x < f → last_on os x ≡ silent
unfolding last_on
last-below f [] r x h = refl
last-below f (o ∷ os) (ops-rise a r) x h = last-next o os x (λ e. omega arith) ∙ last-below (suc o.id) os r x (omega arith)

last-here : (o : Op) (os : List Op) → RisingOps (suc o.id) os → last_on (o ∷ os) o.id ≡ last o.content
unfolding last_on
last-here o os r = rw (last-below (suc o.id) os r o.id (omega arith), eq-eqb o.id o.id refl)

not-silent : {c : Content} → last c ≡ silent → ⊥
not-silent e = let z : ◌≡◌ {A = ℕ} 0 1 = cc in omega arith

-- two rising lists that say the same are equal: so whatever rises and says what the batch says last is `settled`
pub ops-ext : (f g : ℕ) (xs ys : List Op) → RisingOps f xs → RisingOps g ys → ((x : ℕ) → last_on xs x ≡ last_on ys x) → xs ≡ ys
unfolding last_on
ops-ext f g [] [] r q h = refl
ops-ext f g [] (p ∷ ps) r (ops-rise b q) h = absurd (not-silent (sym (last-here p ps q) ∙ sym (h p.id)))
ops-ext f g (o ∷ os) [] (ops-rise a r) q h = absurd (not-silent (sym (last-here o os r) ∙ h o.id))
ops-ext f g (o ∷ os) (p ∷ ps) (ops-rise a r) (ops-rise b q) h = go (ops-ext (suc o.id) (suc p.id) os ps r q) (order o.id p.id)
  where
    tails : o.id ≡ p.id → (x : ℕ) → (o.id ≡ x) ⊎ (o.id ≡ x → ⊥) → last_on os x ≡ last_on ps x
    tails e x (inl k) = last-below (suc o.id) os r x (omega arith) ∙ sym (last-below (suc p.id) ps q x (omega arith))
    tails e x (inr k) = sym (last-next o os x k) ∙ h x ∙ last-next p ps x (λ z. k (e ∙ z))

    go : (((x : ℕ) → last_on os x ≡ last_on ps x) → os ≡ ps) → (o.id < p.id) ⊎ ((o.id ≡ p.id) ⊎ (p.id < o.id)) → ◌≡◌ {A = List Op} (o ∷ os) (p ∷ ps)
    go ih (inl l) = absurd (not-silent (sym (last-here o os r) ∙ h o.id ∙ last-below (suc o.id) (p ∷ ps) (ops-rise l q) o.id (omega arith)))
    go ih (inr (inr l)) = absurd (not-silent (sym (last-here p ps q) ∙ sym (h p.id) ∙ last-below (suc p.id) (o ∷ os) (ops-rise l r) p.id (omega arith)))
    go ih (inr (inl e)) =
        let said : last o.content ≡ last p.content = sym (last-here o os r) ∙ h o.id ∙ ap (last_on (p ∷ ps)) e ∙ last-here p ps q in
        let same : o.content ≡ p.content = cc in
        let first : o ≡ p = λ i. record { id = e i; content = same i } in
        let rest : os ≡ ps = ih (λ x. tails e x (same? o.id x)) in
        cc
