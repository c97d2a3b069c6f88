-- "Each id maps to its entry of greatest masked position": what `latest_of` holds.
use Rattle.std.specs.Prelude.{◌≡◌, refl, ◌⊎◌, ◌<◌, ◌≤◌, ◌∷◌, None, Some}
use Rattle.std.proofs.Common.{sym, ap, ◌∙◌, inl, inr, ⊎_elim, zero-le, arith, ltb-true, ltb-false, lt-ltb, eq-eqb, ne_eqb}
use Rattle.rules.specs.Base.{Bool, true, false, List, [], ℕ, suc, ltb, pick}
use Rattle.theory.specs.Types.{Entry, Held}
use Rattle.rules.specs.Table.{lookup, insert, insert_all}
use Rattle.rules.specs.Reopen.{masked_position, latest, latest_from, latest_of}
use Rattle.rules.proofs.BaseLaws.{order, same?}
use Rattle.rules.specs.TableLaws.{Rising, rise, rise-end, Has}
use Rattle.rules.proofs.TableLaws.{lookup-here, lookup-next, lookup-insert-same, lookup-insert-other, rising-has, lookup-below}
use Rattle.rules.proofs.ReopenLaws.{latest-next, latest-here, latest-before, latest-rising}
use Rattle.theory.specs.Newest.{masked_at, Newest, later, held_with}

-- the same candidates
pub newest-iff : (P Q : ℕ → Type 0) (o : Held) → ((l : ℕ) → P l → Q l) → ((l : ℕ) → Q l → P l) → Newest P o → Newest Q o
newest-iff P Q None f g n = λ l q. n l (g l q)
newest-iff P Q (Some l) f g n = (f l n.0, λ m q. n.1 m (g m q))

-- candidates of different positions have one greatest
pub newest-one : (P : ℕ → Type 0) (o u : Held) → ((l m : ℕ) → P l → P m → masked_at l ≡ masked_at m → l ≡ m) → Newest P o → Newest P u → o ≡ u
newest-one P None None d n k = refl
newest-one P None (Some m) d n k = absurd (n m k.0)
newest-one P (Some l) None d n k = absurd (k l n.0)
newest-one P (Some l) (Some m) d n k =
    let a = n.1 m k.0 in
    let b = k.1 l n.0 in
    ap Some (d l m n.0 k.0 (omega arith))

-- fewer candidates: the greatest stays if it is still there
pub newest-less : (P Q : ℕ → Type 0) (o : Held) → ((l : ℕ) → Q l → P l) → ((l : ℕ) → o ≡ Some l → Q l) → Newest P o → Newest Q o
newest-less P Q None g h n = λ l q. n l (g l q)
newest-less P Q (Some l) g h n = (h l refl, λ m q. n.1 m (g m q))

-- the later of two entries of one id
lookup-later : (n e : Entry) (es : List Entry) → e.id ≡ n.id → (x : ℕ) → n.id ≡ x
    → lookup (pick (ltb (masked_position e) (masked_position n)) n e ∷ es) x ≡ later (Some e.location) n.location
lookup-later n e es h x q = go (ltb (masked_position e) (masked_position n))
  where
    go : (b : Bool) → lookup (pick b n e ∷ es) x ≡ pick b (Some n.location) (Some e.location)
    go true = lookup-here n es x q
    go false = lookup-here e es x (h ∙ q)

other-later : (n e : Entry) (es : List Entry) (b : Bool) (x : ℕ) → e.id ≡ n.id → (n.id ≡ x → ⊥) → lookup (pick b n e ∷ es) x ≡ lookup (e ∷ es) x
other-later n e es true x h q = lookup-next n es x q ∙ sym (lookup-next e es x (λ z. q (sym h ∙ z)))
other-later n e es false x h q = refl

lookup-latest-same : (f : ℕ) (t : List Entry) → Rising f t → (n : Entry) → lookup (latest n t) n.id ≡ later (lookup t n.id) n.location
unfolding latest lookup
lookup-latest-same f [] r n = lookup-here n [] n.id refl
lookup-latest-same f (e ∷ t) (rise a r) n = go (lookup-latest-same (suc e.id) t r n) (order e.id n.id)
  where
    go : lookup (latest n t) n.id ≡ later (lookup t n.id) n.location → (e.id < n.id) ⊎ ((e.id ≡ n.id) ⊎ (n.id < e.id))
        → lookup (latest n (e ∷ t)) n.id ≡ later (lookup (e ∷ t) n.id) n.location
    go ih (inl h) =
        ap (λ (u : List Entry). lookup u n.id) (latest-next n e t h) ∙ lookup-next e (latest n t) n.id (λ q. omega arith) ∙ ih
        ∙ sym (ap (λ (o : Held). later o n.location) (lookup-next e t n.id (λ q. omega arith)))
    go ih (inr (inl h)) =
        ap (λ (u : List Entry). lookup u n.id) (latest-here n e t h) ∙ lookup-later n e t h n.id refl
        ∙ sym (ap (λ (o : Held). later o n.location) (lookup-here e t n.id h))
    go ih (inr (inr h)) =
        ap (λ (u : List Entry). lookup u n.id) (latest-before n e t h) ∙ lookup-here n (e ∷ t) n.id refl
        ∙ sym (ap (λ (o : Held). later o n.location) (lookup-next e t n.id (λ q. omega arith) ∙ lookup-below (suc e.id) t r n.id (omega arith)))

lookup-latest-other : (t : List Entry) (n : Entry) (x : ℕ) → (n.id ≡ x → ⊥) → lookup (latest n t) x ≡ lookup t x
unfolding latest
lookup-latest-other [] n x d = lookup-next n [] x d
lookup-latest-other (e ∷ t) n x d = go (lookup-latest-other t n x d) (order e.id n.id)
  where
    tail : lookup (latest n t) x ≡ lookup t x → (e.id ≡ x) ⊎ (e.id ≡ x → ⊥) → lookup (e ∷ latest n t) x ≡ lookup (e ∷ t) x
    tail ih (inl q) = lookup-here e _ x q ∙ sym (lookup-here e t x q)
    tail ih (inr q) = lookup-next e _ x q ∙ ih ∙ sym (lookup-next e t x q)

    go : lookup (latest n t) x ≡ lookup t x → (e.id < n.id) ⊎ ((e.id ≡ n.id) ⊎ (n.id < e.id)) → lookup (latest n (e ∷ t)) x ≡ lookup (e ∷ t) x
    go ih (inl h) = ap (λ (u : List Entry). lookup u x) (latest-next n e t h) ∙ tail ih (same? e.id x)
    go ih (inr (inl h)) =
        ap (λ (u : List Entry). lookup u x) (latest-here n e t h) ∙ other-later n e t (ltb (masked_position e) (masked_position n)) x h d
    go ih (inr (inr h)) = ap (λ (u : List Entry). lookup u x) (latest-before n e t h) ∙ lookup-next n (e ∷ t) x d

lookup-latest : (f : ℕ) (t : List Entry) → Rising f t → (n : Entry) (x : ℕ) → lookup (latest n t) x ≡ held_with (lookup t x) n x
lookup-latest f t r n x = go (same? n.id x)
  where
    go : (n.id ≡ x) ⊎ (n.id ≡ x → ⊥) → lookup (latest n t) x ≡ held_with (lookup t x) n x
    go (inl q) =
        ap (lookup (latest n t)) (sym q) ∙ lookup-latest-same f t r n ∙ ap (λ (y : ℕ). later (lookup t y) n.location) q
        ∙ sym (simp (eq-eqb n.id x q))
    go (inr q) = lookup-latest-other t n x q ∙ sym (simp (ne_eqb n.id x q))

-- ---- all entries
newest-with : (P : ℕ → Type 0) (o : Held) (e : Entry) (x : ℕ) → Newest P o
    → Newest (λ l. P l ⊎ ((e.id ≡ x) × (e.location ≡ l))) (held_with o e x)
newest-with P o e x n = go o n (same? e.id x)
  where
    up : e.id ≡ x → (k : ℕ) → Newest P (Some k) → (b : Bool) → ltb (masked_at k) (masked_at e.location) ≡ b
        → Newest (λ l. P l ⊎ ((e.id ≡ x) × (e.location ≡ l))) (pick b (Some e.location) (Some k))
    up q k n true h = (inr (q, refl), most)
      where
        most : (m : ℕ) → P m ⊎ ((e.id ≡ x) × (e.location ≡ m)) → masked_at m ≤ masked_at e.location
        most m (inl a) = let c = n.1 m a in let d = ltb-true (masked_at k) (masked_at e.location) h in omega arith
        most m (inr (a, b)) = let c : masked_at e.location ≡ masked_at m = ap masked_at b in omega arith
    up q k n false h = (inl n.0, most)
      where
        most : (m : ℕ) → P m ⊎ ((e.id ≡ x) × (e.location ≡ m)) → masked_at m ≤ masked_at k
        most m (inl a) = n.1 m a
        most m (inr (a, b)) =
            let c : masked_at e.location ≡ masked_at m = ap masked_at b in let d = ltb-false (masked_at k) (masked_at e.location) h in omega arith

    go : (o : Held) → Newest P o → (e.id ≡ x) ⊎ (e.id ≡ x → ⊥) → Newest (λ l. P l ⊎ ((e.id ≡ x) × (e.location ≡ l))) (held_with o e x)
    go None n (inl q) = rw (eq-eqb e.id x q) (inr (q, refl), alone)
      where
        alone : (m : ℕ) → P m ⊎ ((e.id ≡ x) × (e.location ≡ m)) → masked_at m ≤ masked_at e.location
        alone m (inl a) = absurd (n m a)
        alone m (inr (a, b)) = let c : masked_at e.location ≡ masked_at m = ap masked_at b in omega arith
    go (Some k) n (inl q) = rw (eq-eqb e.id x q) (up q k n (ltb (masked_at k) (masked_at e.location)) refl)
    go o n (inr q) = rw (ne_eqb e.id x q) (newest-iff P (λ l. P l ⊎ ((e.id ≡ x) × (e.location ≡ l))) o (λ l a. inl a) (λ l. ⊎_elim (λ a. a) (λ b. absurd (q b.0))) n)

-- each id maps to the greatest of what the table held and of the entries
pub newest-from : (t es : List Entry) (x : ℕ) (P : ℕ → Type 0) → Rising 0 t → Newest P (lookup t x)
    → Newest (λ l. P l ⊎ Has es x l) (lookup (latest_from t es) x)
unfolding latest_from
newest-from t [] x P r n = newest-iff P (λ l. P l ⊎ ⊥) (lookup t x) (λ l a. inl a) (λ l. ⊎_elim (λ a. a) (λ b. absurd b)) n
newest-from t (e ∷ es) x P r n =
    newest-iff (λ l. (P l ⊎ ((e.id ≡ x) × (e.location ≡ l))) ⊎ Has es x l) (λ l. P l ⊎ (((e.id ≡ x) × (e.location ≡ l)) ⊎ Has es x l))
    (lookup (latest_from (latest e t) es) x)
    (λ l. ⊎_elim (⊎_elim (λ a. inl a) (λ b. inr (inl b))) (λ c. inr (inr c)))
    (λ l. ⊎_elim (λ a. inl (inl a)) (⊎_elim (λ b. inl (inr b)) (λ c. inr c)))
    (newest-from (latest e t) es x (λ l. P l ⊎ ((e.id ≡ x) × (e.location ≡ l))) (latest-rising 0 e t zero-le r)
    (rw (lookup-latest 0 t r e x) (newest-with P (lookup t x) e x n)))

-- LAW: the greatest of all entries of an id; an id that none mentions is unmapped
pub newest-latest : (es : List Entry) (x : ℕ) → Newest (Has es x) (lookup (latest_of es) x)
unfolding lookup
newest-latest es x =
    newest-iff (λ l. ⊥ ⊎ Has es x l) (Has es x) (lookup (latest_from [] es) x)
    (λ l. ⊎_elim (λ a. absurd a) (λ b. b)) (λ l a. inr a)
    (newest-from [] es x (λ l. ⊥) rise-end (λ l a. a))

-- ---- stores in the order of the ids
later-put : (o : Held) (l : ℕ) → ((m : ℕ) → o ≡ Some m → masked_at m < masked_at l) → later o l ≡ Some l
later-put None l h = refl
later-put (Some k) l h = rw (lt-ltb (masked_at k) (masked_at l) (h k refl))

-- candidates that the table holds, and entries of rising ids that are later than those: storing them keeps the greatest
pub newest-insert-all : (f : ℕ) (t es : List Entry) (x : ℕ) (P : ℕ → Type 0) → Rising f es
    → ((l m : ℕ) → Has es x l → lookup t x ≡ Some m → masked_at m < masked_at l)
    → Newest P (lookup t x) → Newest (λ l. P l ⊎ Has es x l) (lookup (insert_all t es) x)
unfolding insert_all
newest-insert-all f t [] x P r h n = newest-iff P (λ l. P l ⊎ ⊥) (lookup t x) (λ l a. inl a) (λ l. ⊎_elim (λ a. a) (λ b. absurd b)) n
newest-insert-all f t (e ∷ es) x P (rise a r) h n =
    newest-iff (λ l. (P l ⊎ ((e.id ≡ x) × (e.location ≡ l))) ⊎ Has es x l) (λ l. P l ⊎ (((e.id ≡ x) × (e.location ≡ l)) ⊎ Has es x l))
    (lookup (insert_all (insert t e) es) x)
    (λ l. ⊎_elim (⊎_elim (λ a. inl a) (λ b. inr (inl b))) (λ c. inr (inr c)))
    (λ l. ⊎_elim (λ a. inl (inl a)) (⊎_elim (λ b. inl (inr b)) (λ c. inr c)))
    (newest-insert-all (suc e.id) (insert t e) es x (λ l. P l ⊎ ((e.id ≡ x) × (e.location ≡ l))) r
    (λ l m k p. h l m (inr k) (sym (lookup-insert-other t e x (apart l k)) ∙ p))
    (rw stored (newest-with P (lookup t x) e x n)))
  where
    apart : (l : ℕ) → Has es x l → e.id ≡ x → ⊥
    apart l k q = let w = rising-has (suc e.id) es r x l k in omega arith

    stored : lookup (insert t e) x ≡ held_with (lookup t x) e x
    stored = go (same? e.id x)
      where
        go : (e.id ≡ x) ⊎ (e.id ≡ x → ⊥) → lookup (insert t e) x ≡ held_with (lookup t x) e x
        go (inl q) =
            ap (lookup (insert t e)) (sym q) ∙ lookup-insert-same t e
            ∙ sym (later-put (lookup t x) e.location (λ m p. h e.location m (inl (q, refl)) p)) ∙ sym (simp (eq-eqb e.id x q))
        go (inr q) = lookup-insert-other t e x q ∙ sym (simp (ne_eqb e.id x q))
