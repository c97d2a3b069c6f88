-- The table as a list of entries: lookups after stores, the order, lengths.
use Rattle.std.specs.Prelude.{◌≡◌, refl, ◌⊎◌, ◌≤◌, ◌<◌, ◌&&◌, ◌∷◌, ◌+◌, None, Some}
use Rattle.std.proofs.Common.{sym, ap, ◌∙◌, inl, inr, zero-le, arith}
use borrow.Author.Tests.{lt-ltb, le-ltb, le-leb, lt-leb, eq-eqb, ne_eqb, eqb-true}
use Rattle.rules.specs.Base.{Bool, true, false, List, [], ℕ, suc, length, eqb, pick}
use Rattle.rules.specs.Types.{Entry, Held, At, DeletedAt}
use Rattle.disk_location.specs.Locations.{delete_of}
use Rattle.rules.proofs.BaseLaws.{order, same?}
use Rattle.rules.specs.Table.{lookup, loaded_of, never_written, current_at, insert, insert_all, unmapped, full, mapped_to}
use Rattle.rules.specs.TableLaws.{Rising, rise-end, rise, Has, or_else}

-- mapped is not unmapped
pub mapped-not : {l : ℕ} → Some l ≡ None → ⊥
mapped-not h = let z : ◌≡◌ {A = ℕ} 0 1 = cc in omega arith

-- mapped at one location
pub mapped-one : {l m : ℕ} → Some l ≡ Some m → l ≡ m
mapped-one h = cc

-- the test as a fact
pub mapped-to : (o : Held) (l : ℕ) → mapped_to o l ≡ true → o ≡ Some l
mapped-to None l h = absurd (let z : ◌≡◌ {A = ℕ} 0 1 = cc in omega arith)
mapped-to (Some m) l h = ap Some (eqb-true m l h)

-- ---- what load tells
-- LAW: never written is unmapped
pub never-unmapped : (h : Held) → never_written (loaded_of h) ≡ unmapped h
never-unmapped None = refl
never-unmapped (Some l) = go (delete_of l)
  where
    go : (d : Bool) → never_written (pick d (DeletedAt l) (At l)) ≡ false
    go true = refl
    go false = refl

-- LAW: at a location, an object or a delete, is mapped to it
pub current-mapped : (h : Held) (m : ℕ) → current_at (loaded_of h) m ≡ mapped_to h m
current-mapped None m = refl
current-mapped (Some l) m = go (delete_of l)
  where
    go : (d : Bool) → current_at (pick d (DeletedAt l) (At l)) m ≡ eqb l m
    go true = refl
    go false = refl

-- the test as a fact
pub current-is : (h : Held) (m : ℕ) → current_at (loaded_of h) m ≡ true → h ≡ Some m
current-is h m e = mapped-to h m (sym (current-mapped h m) ∙ e)

-- an id and a location make one entry
pub entry-ext : (e d : Entry) → e.id ≡ d.id → e.location ≡ d.location → e ≡ d
entry-ext e d p q = λ i. record { id = p i; location = q i }

-- ---- the clauses, by facts in the place of tests
module _ (e : Entry) (es : List Entry) (x : ℕ) where
  -- the entry of that id
  pub lookup-here : e.id ≡ x → lookup (e ∷ es) x ≡ Some e.location
  unfolding lookup
  lookup-here h = simp (eq-eqb _ _ h)

  -- one of another id
  pub lookup-next : (e.id ≡ x → ⊥) → lookup (e ∷ es) x ≡ lookup es x
  unfolding lookup
  lookup-next h = simp (ne_eqb _ _ h)

module _ (e : Entry) (es : List Entry) (n : Entry) where
  -- behind a lower id
  pub insert-next : e.id < n.id → insert (e ∷ es) n ≡ e ∷ insert es n
  unfolding insert
  insert-next h = simp (lt-ltb _ _ h)

  -- in the place of the same id
  pub insert-here : e.id ≡ n.id → insert (e ∷ es) n ≡ n ∷ es
  unfolding insert
  insert-here h = simp (le-ltb e.id n.id (omega arith), eq-eqb _ _ h)

  -- before a greater one
  pub insert-before : n.id < e.id → insert (e ∷ es) n ≡ n ∷ e ∷ es
  unfolding insert
  insert-before h = simp (le-ltb e.id n.id (omega arith), ne_eqb e.id n.id (λ q. omega arith))

-- ---- load after store
-- the same id: what was stored
pub lookup-insert-same : (es : List Entry) (n : Entry) → lookup (insert es n) n.id ≡ Some n.location
unfolding insert
lookup-insert-same [] n = lookup-here n [] n.id refl
lookup-insert-same (e ∷ es) n = go (lookup-insert-same es n) (order e.id n.id)
  where
    go : lookup (insert es n) n.id ≡ Some n.location → (e.id < n.id) ⊎ ((e.id ≡ n.id) ⊎ (n.id < e.id))
        → lookup (insert (e ∷ es) n) n.id ≡ Some n.location
    go ih (inl h) = rw (insert-next e es n h) (lookup-next e _ n.id (λ q. omega arith) ∙ ih)
    go ih (inr (inl h)) = rw (insert-here e es n h) (lookup-here n es n.id refl)
    go ih (inr (inr h)) = rw (insert-before e es n h) (lookup-here n (e ∷ es) n.id refl)

-- another id: what was there
pub lookup-insert-other : (es : List Entry) (n : Entry) (y : ℕ) → (n.id ≡ y → ⊥) → lookup (insert es n) y ≡ lookup es y
unfolding insert
lookup-insert-other [] n y o = lookup-next n [] y o
lookup-insert-other (e ∷ es) n y o = go (lookup-insert-other es n y o) (order e.id n.id)
  where
    tail : lookup (insert es n) y ≡ lookup es y → (e.id ≡ y) ⊎ (e.id ≡ y → ⊥) → lookup (e ∷ insert es n) y ≡ lookup (e ∷ es) y
    tail ih (inl q) = lookup-here e _ y q ∙ sym (lookup-here e es y q)
    tail ih (inr q) = lookup-next e _ y q ∙ ih ∙ sym (lookup-next e es y q)

    go : lookup (insert es n) y ≡ lookup es y → (e.id < n.id) ⊎ ((e.id ≡ n.id) ⊎ (n.id < e.id)) → lookup (insert (e ∷ es) n) y ≡ lookup (e ∷ es) y
    go ih (inl h) = rw (insert-next e es n h) (tail ih (same? e.id y))
    go ih (inr (inl h)) = rw (insert-here e es n h) (lookup-next n es y o ∙ sym (lookup-next e es y (λ q. o (sym h ∙ q))))
    go ih (inr (inr h)) = rw (insert-before e es n h) (lookup-next n (e ∷ es) y o)

-- ---- the order
-- a store keeps it
pub rising-insert : (f : ℕ) (es : List Entry) (n : Entry) → f ≤ n.id → Rising f es → Rising f (insert es n)
unfolding insert
rising-insert f [] n fn r = rise fn rise-end
rising-insert f (e ∷ es) n fn (rise a r) = go (λ h. rising-insert (suc e.id) es n h r) (order e.id n.id)
  where
    go : (e.id < n.id → Rising (suc e.id) (insert es n)) → (e.id < n.id) ⊎ ((e.id ≡ n.id) ⊎ (n.id < e.id)) → Rising f (insert (e ∷ es) n)
    go ih (inl h) = rw (insert-next e es n h) (rise a (ih h))
    go ih (inr (inl h)) = rw (insert-here e es n h) (rise fn (rw h at r))
    go ih (inr (inr h)) = rw (insert-before e es n h) (rise fn (rise h r))

-- an id below the least one is not there
pub lookup-below : (f : ℕ) (es : List Entry) → Rising f es → (x : ℕ) → x < f → lookup es x ≡ None
unfolding lookup
lookup-below f [] r x h = refl
lookup-below f (e ∷ es) (rise a r) x h = lookup-next e es x (λ q. omega arith) ∙ lookup-below (suc e.id) es r x (omega arith)

-- none is below the least one
pub rising-has : (f : ℕ) (es : List Entry) → Rising f es → (x l : ℕ) → Has es x l → f ≤ x
rising-has f [] r x l h = absurd h
rising-has f (e ∷ es) (rise a r) x l (inl (p, q)) = omega arith
rising-has f (e ∷ es) (rise a r) x l (inr h) = let w = rising-has (suc e.id) es r x l h in omega arith

-- ---- what lookup finds is there, and in order the other way round
pub lookup-has : (es : List Entry) (x l : ℕ) → lookup es x ≡ Some l → Has es x l
unfolding lookup
lookup-has [] x l h = mapped-not (sym h)
lookup-has (e ∷ es) x l h = go (lookup-has es x l) (same? e.id x)
  where
    go : (lookup es x ≡ Some l → Has es x l) → (e.id ≡ x) ⊎ (e.id ≡ x → ⊥) → Has (e ∷ es) x l
    go ih (inl q) = inl (q, mapped-one (sym (lookup-here e es x q) ∙ h))
    go ih (inr q) = inr (ih (sym (lookup-next e es x q) ∙ h))

-- what is there in order is found
pub has-lookup : (f : ℕ) (es : List Entry) → Rising f es → (x l : ℕ) → Has es x l → lookup es x ≡ Some l
has-lookup f [] r x l h = absurd h
has-lookup f (e ∷ es) (rise a r) x l (inl (p, q)) = lookup-here e es x p ∙ ap Some q
has-lookup f (e ∷ es) (rise a r) x l (inr h) =
    let w = rising-has (suc e.id) es r x l h in
    lookup-next e es x (λ q. omega arith) ∙ has-lookup (suc e.id) es r x l h

-- two tables in order with the same lookups are equal
pub table-ext : (f g : ℕ) (t u : List Entry) → Rising f t → Rising g u → ((x : ℕ) → lookup t x ≡ lookup u x) → t ≡ u
unfolding lookup
table-ext f g [] [] r s h = refl
table-ext f g [] (d ∷ u) r s h = absurd (mapped-not (sym (lookup-here d u d.id refl) ∙ sym (h d.id)))
table-ext f g (e ∷ t) [] r s h = absurd (mapped-not (sym (lookup-here e t e.id refl) ∙ h e.id))
table-ext f g (e ∷ t) (d ∷ u) (rise a r) (rise b s) h = go (table-ext (suc e.id) (suc d.id) t u r s) (order e.id d.id)
  where
    tails : e.id ≡ d.id → (x : ℕ) → (e.id ≡ x) ⊎ (e.id ≡ x → ⊥) → lookup t x ≡ lookup u x
    tails q x (inl p) = lookup-below (suc e.id) t r x (omega arith) ∙ sym (lookup-below (suc d.id) u s x (omega arith))
    tails q x (inr p) = sym (lookup-next e t x p) ∙ h x ∙ lookup-next d u x (λ z. p (q ∙ z))

    go : (((x : ℕ) → lookup t x ≡ lookup u x) → t ≡ u) → (e.id < d.id) ⊎ ((e.id ≡ d.id) ⊎ (d.id < e.id)) → ◌≡◌ {A = List Entry} (e ∷ t) (d ∷ u)
    go ih (inl q) = absurd (mapped-not (sym (lookup-here e t e.id refl) ∙ h e.id ∙ lookup-below (e.id + 1) (d ∷ u) (rise (omega arith) s) e.id (omega arith)))
    go ih (inr (inr q)) = absurd (mapped-not (sym (lookup-here d u d.id refl) ∙ sym (h d.id) ∙ lookup-below (d.id + 1) (e ∷ t) (rise (omega arith) r) d.id (omega arith)))
    go ih (inr (inl q)) =
        let p : e.location ≡ d.location = mapped-one (sym (lookup-here e t e.id refl) ∙ h e.id ∙ lookup-here d u e.id (sym q)) in
        let w : t ≡ u = ih (λ x. tails q x (same? e.id x)) in
        let v : e ≡ d = entry-ext e d q p in
        cc

-- many stores keep the order
pub rising-insert-all : (t es : List Entry) → Rising 0 t → Rising 0 (insert_all t es)
unfolding insert_all
rising-insert-all t [] r = r
rising-insert-all t (e ∷ es) r = rising-insert-all (insert t e) es (rising-insert 0 t e zero-le r)

-- load after many stores of rising ids
pub lookup-insert-all : (f : ℕ) (t es : List Entry) → Rising f es → (x : ℕ) → lookup (insert_all t es) x ≡ or_else (lookup es x) (lookup t x)
unfolding insert_all lookup
lookup-insert-all f t [] r x = refl
lookup-insert-all f t (e ∷ es) (rise a r) x = go (lookup-insert-all (suc e.id) (insert t e) es r x) (same? e.id x)
  where
    go : lookup (insert_all (insert t e) es) x ≡ or_else (lookup es x) (lookup (insert t e) x)
        → (e.id ≡ x) ⊎ (e.id ≡ x → ⊥) → lookup (insert_all (insert t e) es) x ≡ or_else (lookup (e ∷ es) x) (lookup t x)
    go ih (inl q) =
        let n : lookup es x ≡ None = lookup-below (suc e.id) es r x (omega arith) in
        let u : lookup (insert t e) x ≡ Some e.location = ap (lookup (insert t e)) (sym q) ∙ lookup-insert-same t e in
        ih ∙ ap (λ (o : Held). or_else o (lookup (insert t e) x)) n ∙ u
        ∙ sym (ap (λ (o : Held). or_else o (lookup t x)) (lookup-here e es x q))
    go ih (inr q) =
        ih ∙ ap (λ (o : Held). or_else (lookup es x) o) (lookup-insert-other t e x q)
        ∙ sym (ap (λ (o : Held). or_else o (lookup t x)) (lookup-next e es x q))

-- ---- lengths
-- a store grows the table by one at most
pub insert-length : (es : List Entry) (n : Entry) → (length es ≤ length (insert es n)) × (length (insert es n) ≤ length es + 1)
unfolding insert
insert-length [] n = (omega arith, omega arith)
insert-length (e ∷ es) n = go (insert-length es n) (order e.id n.id)
  where
    go : (length es ≤ length (insert es n)) × (length (insert es n) ≤ length es + 1) → (e.id < n.id) ⊎ ((e.id ≡ n.id) ⊎ (n.id < e.id))
        → (length (e ∷ es) ≤ length (insert (e ∷ es) n)) × (length (insert (e ∷ es) n) ≤ length (e ∷ es) + 1)
    go ih (inl h) = rw (insert-next e es n h) (omega (arith, ih.0), omega (arith, ih.1))
    go ih (inr (inl h)) = rw (insert-here e es n h) (omega arith, omega arith)
    go ih (inr (inr h)) = rw (insert-before e es n h) (omega arith, omega arith)

-- many stores, so much
pub insert-all-length : (t es : List Entry) → (length t ≤ length (insert_all t es)) × (length (insert_all t es) ≤ length t + length es)
unfolding insert_all
insert-all-length t [] = (omega arith, omega arith)
insert-all-length t (e ∷ es) =
    let w = insert-all-length (insert t e) es in
    let v = insert-length t e in
    (omega (arith, w.0, v.0), omega (arith, w.1, v.1))

-- a new id grows it by one
pub insert-new : (es : List Entry) (n : Entry) → lookup es n.id ≡ None → length (insert es n) ≡ length es + 1
unfolding insert
insert-new [] n h = omega arith
insert-new (e ∷ es) n h = go (insert-new es n) (order e.id n.id)
  where
    go : (lookup es n.id ≡ None → length (insert es n) ≡ length es + 1) → (e.id < n.id) ⊎ ((e.id ≡ n.id) ⊎ (n.id < e.id))
        → length (insert (e ∷ es) n) ≡ length (e ∷ es) + 1
    go ih (inl p) = rw (insert-next e es n p) (let w = ih (sym (lookup-next e es n.id (λ q. omega arith)) ∙ h) in omega arith)
    go ih (inr (inl p)) = absurd (mapped-not (sym (lookup-here e es n.id p) ∙ h))
    go ih (inr (inr p)) = rw (insert-before e es n p) (omega arith)

-- one that is there does not
pub insert-old : (f : ℕ) (es : List Entry) → Rising f es → (n : Entry) (l : ℕ) → lookup es n.id ≡ Some l → length (insert es n) ≡ length es
unfolding insert lookup
insert-old f [] r n l h = absurd (mapped-not (sym h))
insert-old f (e ∷ es) (rise a r) n l h = go (insert-old (suc e.id) es r n l) (order e.id n.id)
  where
    go : (lookup es n.id ≡ Some l → length (insert es n) ≡ length es) → (e.id < n.id) ⊎ ((e.id ≡ n.id) ⊎ (n.id < e.id))
        → length (insert (e ∷ es) n) ≡ length (e ∷ es)
    go ih (inl p) = rw (insert-next e es n p) (let w = ih (sym (lookup-next e es n.id (λ q. omega arith)) ∙ h) in omega arith)
    go ih (inr (inl p)) = rw (insert-here e es n p) refl
    go ih (inr (inr p)) = absurd (mapped-not (sym h ∙ lookup-below (n.id + 1) (e ∷ es) (rise (omega arith) r) n.id (omega arith)))

-- "a new id in a full table", as facts
pub full-when : (es : List Entry) (capacity x : ℕ) → lookup es x ≡ None → capacity ≤ length es → full es capacity x ≡ true
unfolding full
full-when es capacity x h q = rw (h, le-leb capacity (length es) q)

-- no, where the id is there
pub full-mapped : (es : List Entry) (capacity x l : ℕ) → lookup es x ≡ Some l → full es capacity x ≡ false
unfolding full
full-mapped es capacity x l h = rw h

-- no, where there is room
pub full-room : (es : List Entry) (capacity x : ℕ) → length es < capacity → full es capacity x ≡ false
unfolding full
full-room es capacity x h = rw (lt-leb capacity (length es) h) (go (unmapped (lookup es x)))
  where
    go : (t : Bool) → (t && false) ≡ false
    go true = refl
    go false = refl
