-- The file map: empty records, lookups and live counts, in a reader's words.
use Rattle.std.specs.Prelude.{◌≡◌, refl, ◌⊎◌, ◌≤◌, ◌<◌, min, ◌&&◌, ◌∷◌, ◌+◌, ◌-◌, ◌*◌, ◌^◌, None, Some}
use Rattle.std.proofs.Common.{sym, ap, ◌∙◌, inl, inr, zero-add, le_of_suc-le-suc, not-suc-le-zero, eq-or-lt_of_le, add-one, arith, drop_of_length-le, length-set, length-take, drop-cons, get_or-take, ne_eqb, lt-ltb, le-ltb, le-leb, leb-true, leb-false, eqb-true}
use Rattle.std.proofs.Math.Nat.{min-le_left, min-le_right, le-min}
use Rattle.std.proofs.lemmas.Bool.{lt-leb, eqb-false}
use Rattle.numbers.specs.GroupLaws.{either_way}
use Rattle.rules.specs.Base.{Bool, true, false, List, [], ℕ, zero, suc, length, get_or, take, drop, leb, ltb, eqb, pick, any, zeros}
use Rattle.rules.specs.Types.{Record, Slot}
use Rattle.rules.proofs.BaseLaws.{zeros-true, zeros-cons, order}
use Rattle.rules.specs.FileMap.{recorded, empty_record, is_empty, record_at, slots_where, empty_slots, lowest_empty, Lead, leads, lead_from, file_for, less_live}
use Rattle.rules.specs.FileMapLaws.{Leads, IsFile, Among, Passing, Lowest}

-- "An empty record is all zeros.", and only that one
pub empty-is : (r : Record) → is_empty r ≡ true → r ≡ empty_record
unfolding is_empty
empty-is r e =
    let a = zeros-true _ _ e in
    let b = zeros-true _ _ a.1 in
    let c = zeros-true _ _ b.1 in
    let d = zeros-true _ _ c.1 in
    let f = zeros-true _ _ d.1 in
    let g = zeros-true _ _ f.1 in
    let h = zeros-true _ _ g.1 in
    λ i. recorded (record { lsn = a.0 i; trailer_offset = b.0 i; file_size = c.0 i; present_objects = d.0 i; generation = f.0 i }) (g.0 i) (h.0 i)

-- it is one
pub is-empty : is_empty empty_record ≡ true
unfolding is_empty zeros any
is-empty = refl

-- a record with an lsn is a file's
pub not-empty : (r : Record) → 0 < r.label.lsn → is_empty r ≡ false
unfolding is_empty
not-empty r h = zeros-cons r.label.lsn _ ∙ rw (ne_eqb r.label.lsn 0 (λ z. omega arith))

-- by cases on a record
pub empty-or-not : (r : Record) → (is_empty r ≡ true) ⊎ (is_empty r ≡ false)
empty-or-not r = go (is_empty r) refl
  where
    go : (t : Bool) → is_empty r ≡ t → (is_empty r ≡ true) ⊎ (is_empty r ≡ false)
    go true e = inl e
    go false e = inr e

-- ---- "File lookup"
-- on "raw, unmasked locations": a batch file of masked lsn 1 is above location 2
pub lookup-is-raw : file_for (recorded (record { lsn = 2 ^ 62 + 1; trailer_offset = 0; file_size = 0; present_objects = 0; generation = 0 }) 0 0 ∷ []) 2 ≡ None
unfolding file_for lead_from leads
lookup-is-raw = refl

-- ---- the steps of a loop over the records
pub lead-next : (rs : List Record) (i location : ℕ) (b : Lead) → i < length rs
    → lead_from (drop i rs) i location b ≡ lead_from (drop (i + 1) rs) (i + 1) location (leads (record_at rs i) i location b)
unfolding lead_from
lead-next rs i location b h = rw (add-one i, drop-cons rs i empty_record)

-- behind the last record
pub lead-end : (rs : List Record) (i location : ℕ) (b : Lead) → length rs ≤ i → lead_from (drop i rs) i location b ≡ b
unfolding lead_from
lead-end rs i location b h = rw (drop_of_length-le rs h)

-- a later file takes the lead with a greater own location that is not above the one sought
pub lead-taken : (r : Record) (i location : ℕ) (b : Lead) → b.lsn < r.label.lsn → 2 * r.label.lsn ≤ location → leads r i location b ≡ record { lsn = r.label.lsn; slot = i }
unfolding leads
lead-taken r i location b h k = rw (lt-ltb b.lsn r.label.lsn h, le-leb (2 * r.label.lsn) location k)

-- and not otherwise
pub lead-kept : (r : Record) (i location : ℕ) (b : Lead) → (r.label.lsn ≤ b.lsn) ⊎ (location < 2 * r.label.lsn) → leads r i location b ≡ b
unfolding leads
lead-kept r i location b (inl h) = rw (le-ltb b.lsn r.label.lsn h)
lead-kept r i location b (inr h) = rw (lt-leb (2 * r.label.lsn) location h) (go (ltb b.lsn r.label.lsn))
  where
    go : (t : Bool) → pick (t && false) (record { lsn = r.label.lsn; slot = i }) b ≡ b
    go true = refl
    go false = refl

-- one record more
next : (rs : List Record) (location i : ℕ) (b : Lead) → Leads rs location i b → Leads rs location (suc i) (leads (record_at rs i) i location b)
next rs location i b l = go (either_way b.lsn (record_at rs i).label.lsn) (either_way location (2 * (record_at rs i).label.lsn))
  where
    split : (j : ℕ) → j < suc i → (j ≡ i) ⊎ (j < i)
    split j h = eq-or-lt_of_le (le_of_suc-le-suc h)

    -- a record that does not take the lead
    stays : (2 * (record_at rs i).label.lsn ≤ location → (record_at rs i).label.lsn ≤ b.lsn) → Leads rs location (suc i) b
    stays low = record {
      most = λ j m e. old j (split j m) e;
      first = l.first;
      held = λ z. (omega (arith, (l.held z).0), (l.held z).1, (l.held z).2);
    }
      where
        old : (j : ℕ) → (j ≡ i) ⊎ (j < i) → 2 * (record_at rs j).label.lsn ≤ location → (record_at rs j).label.lsn ≤ b.lsn
        old j (inl w) e = rw w (low (rw w at e))
        old j (inr w) e = l.most j w e

    -- one that does
    takes : b.lsn < (record_at rs i).label.lsn → 2 * (record_at rs i).label.lsn ≤ location → Leads rs location (suc i) (record { lsn = (record_at rs i).label.lsn; slot = i })
    takes h k = record {
      most = λ j m e. new j (split j m) e;
      first = λ j m z e. let w = l.most j m e in omega arith;
      held = λ z. (omega arith, refl, k);
    }
      where
        new : (j : ℕ) → (j ≡ i) ⊎ (j < i) → 2 * (record_at rs j).label.lsn ≤ location → (record_at rs j).label.lsn ≤ (record_at rs i).label.lsn
        new j (inl w) e = rw w (omega arith)
        new j (inr w) e = let u = l.most j w e in omega arith

    go : (b.lsn < (record_at rs i).label.lsn) ⊎ ((record_at rs i).label.lsn ≤ b.lsn) → (location < 2 * (record_at rs i).label.lsn) ⊎ (2 * (record_at rs i).label.lsn ≤ location)
        → Leads rs location (suc i) (leads (record_at rs i) i location b)
    go (inl h) (inr k) = rw (lead-taken (record_at rs i) i location b h k) (takes h k)
    go (inl h) (inl k) = rw (lead-kept (record_at rs i) i location b (inr k)) (stays (λ e. absurd (omega arith)))
    go (inr h) k = rw (lead-kept (record_at rs i) i location b (inl h)) (stays (λ e. h))

all : (rs : List Record) (location n i : ℕ) (b : Lead) → i + n ≡ length rs → Leads rs location i b → Leads rs location (length rs) (lead_from (drop i rs) i location b)
all rs location zero i b e l = rw (lead-end rs i location b (omega arith)) (let q : i ≡ length rs = omega arith in rw q at l)
all rs location (suc n) i b e l =
    rw (lead-next rs i location b (omega arith))
    (all rs location n (i + 1) (leads (record_at rs i) i location b) (omega arith) (rw (add-one i) (next rs location i b l)))

start : (rs : List Record) (location : ℕ) → Leads rs location 0 (record { lsn = 0; slot = 0 })
start rs location = record {
  most = λ j h e. absurd (not-suc-le-zero h);
  first = λ j h z e. absurd (not-suc-le-zero z);
  held = λ z. absurd (not-suc-le-zero z);
}

-- what is found is that file
pub file-at : (rs : List Record) (location k : ℕ) → file_for rs location ≡ Some k → IsFile rs location k
unfolding file_for
file-at rs location k h =
    go (lead_from rs 0 location (record { lsn = 0; slot = 0 })) (all rs location (length rs) 0 (record { lsn = 0; slot = 0 }) (omega arith) (start rs location))
    (eqb (lead_from rs 0 location (record { lsn = 0; slot = 0 })).lsn 0) refl h
  where
    go : (b : Lead) → Leads rs location (length rs) b → (t : Bool) → eqb b.lsn 0 ≡ t → pick t None (Some b.slot) ≡ Some k → IsFile rs location k
    go b l true p e = absurd (let z : ◌≡◌ {A = ℕ} 0 1 = cc in omega arith)
    go b l false p e =
        let n = eqb-false b.lsn 0 p in
        let z : 0 < b.lsn = omega (arith, n) in
        let q : b.slot ≡ k = cc in
        let w = l.held z in
        let v : (record_at rs k).label.lsn ≡ b.lsn = ap (λ (n : ℕ). (record_at rs n).label.lsn) (sym q) ∙ w.1 in
        record {
          place = omega (arith, w.0);
          used = omega arith;
          low = omega (arith, w.2);
          most = λ j m u. let y = l.most j m u in omega arith;
          first = λ j m u. let y = l.first j (omega arith) z u in omega arith;
        }

-- none is found where every file is above
pub file-none : (rs : List Record) (location : ℕ) → file_for rs location ≡ None → (j : ℕ) → j < length rs → 0 < (record_at rs j).label.lsn → location < 2 * (record_at rs j).label.lsn
unfolding file_for
file-none rs location h j m u =
    go (lead_from rs 0 location (record { lsn = 0; slot = 0 })) (all rs location (length rs) 0 (record { lsn = 0; slot = 0 }) (omega arith) (start rs location))
    (eqb (lead_from rs 0 location (record { lsn = 0; slot = 0 })).lsn 0) refl h (leb (2 * (record_at rs j).label.lsn) location) refl
  where
    go : (b : Lead) → Leads rs location (length rs) b → (t : Bool) → eqb b.lsn 0 ≡ t → pick t None (Some b.slot) ≡ None
        → (s : Bool) → leb (2 * (record_at rs j).label.lsn) location ≡ s → location < 2 * (record_at rs j).label.lsn
    go b l false p e s q = absurd (let z : ◌≡◌ {A = ℕ} 0 1 = cc in omega arith)
    go b l true p e false q = leb-false _ _ q
    go b l true p e true q =
        let z : b.lsn ≡ 0 = eqb-true b.lsn 0 p in
        let y = l.most j m (leb-true _ _ q) in
        omega arith

-- and the other way round: that file is found
pub file-is : (rs : List Record) (location k : ℕ) → IsFile rs location k → file_for rs location ≡ Some k
file-is rs location k w = go (file_for rs location) refl
  where
    go : (o : Slot) → file_for rs location ≡ o → file_for rs location ≡ Some k
    go None h = let v = file-none rs location h k w.place w.used in let u = w.low in absurd (omega arith)
    go (Some j) h = pin (order j k)
      where
        pin : (j < k) ⊎ ((j ≡ k) ⊎ (k < j)) → file_for rs location ≡ Some k
        pin (inr (inl q)) = h ∙ ap Some q
        pin (inl q) =
            let v = file-at rs location j h in
            let a = w.first j q v.low in
            let b = v.most k w.place w.low in
            absurd (omega arith)
        pin (inr (inr q)) =
            let v = file-at rs location j h in
            let a = v.first k q w.low in
            let b = w.most j v.place v.low in
            absurd (omega arith)

lead-same : (rs qs : List Record) → length rs ≡ length qs → ((j : ℕ) → (record_at rs j).label.lsn ≡ (record_at qs j).label.lsn)
    → (i location : ℕ) (b : Lead) → lead_from rs i location b ≡ lead_from qs i location b
unfolding lead_from leads
lead-same [] [] n e i location b = refl
lead-same [] (q ∷ qs) n e i location b = absurd (omega arith)
lead-same (r ∷ rs) [] n e i location b = absurd (omega arith)
lead-same (r ∷ rs) (q ∷ qs) n e i location b =
    ap (λ (m : ℕ). lead_from rs (suc i) location (pick (ltb b.lsn m && leb (2 * m) location) (record { lsn = m; slot = i }) b)) (e 0)
    ∙ lead-same rs qs (omega arith) (λ j. e (suc j)) (suc i) location (leads q i location b)

-- the lookup goes by the own locations alone
pub file-same : (rs qs : List Record) → length rs ≡ length qs → ((j : ℕ) → (record_at rs j).label.lsn ≡ (record_at qs j).label.lsn)
    → (location : ℕ) → file_for rs location ≡ file_for qs location
unfolding file_for
file-same rs qs n e location =
    ap (λ (b : Lead). pick (eqb b.lsn 0) None (Some b.slot)) (lead-same rs qs n e 0 location (record { lsn = 0; slot = 0 }))

-- "loses one live": no record more or less
pub less-live-length : (k : Slot) (rs : List Record) → length (less_live k rs) ≡ length rs
less-live-length (Some k) rs = length-set rs k _
less-live-length None rs = refl

-- the clauses, by facts in the place of tests
module _ (f : ℕ → Record → Bool) (i : ℕ) (r : Record) (rs : List Record) where
  -- a record that passes
  pub where-here : f i r ≡ true → slots_where f i (r ∷ rs) ≡ i ∷ slots_where f (suc i) rs
  unfolding slots_where
  where-here e = rw e

  -- one that does not
  pub where_next : f i r ≡ false → slots_where f i (r ∷ rs) ≡ slots_where f (suc i) rs
  unfolding slots_where
  where_next e = rw e

-- no more than the records
pub where-most : (f : ℕ → Record → Bool) (i : ℕ) (rs : List Record) → length (slots_where f i rs) ≤ length rs
unfolding slots_where
where-most f i [] = omega arith
where-most f i (r ∷ rs) = go (f i r) (where-most f (suc i) rs)
  where
    go : (b : Bool) → length (slots_where f (suc i) rs) ≤ length rs → length (pick b (i ∷ slots_where f (suc i) rs) (slots_where f (suc i) rs)) ≤ suc (length rs)
    go true h = omega arith
    go false h = omega arith

-- no more empty slots than the heap's n
pub empty-most : (n : ℕ) (rs : List Record) → length (empty_slots n rs) ≤ n
unfolding empty_slots
empty-most n rs = omega (arith, where-most (λ (i : ℕ) (r : Record). is_empty r) 0 (take n rs), length-take n rs, min-le_left n (length rs))

-- the same, one record earlier
passing-later : (f : ℕ → Record → Bool) (i : ℕ) (r : Record) (rs : List Record) (k : ℕ) → Passing f (suc i) rs k → Passing f i (r ∷ rs) k
passing-later f i r rs k w =
    let there : i + suc w.off ≡ suc i + w.off = omega arith in
    record { off = suc w.off; is = w.is ∙ sym there; place = omega (arith, w.place); passes = ap (λ (n : ℕ). f n (record_at rs w.off)) there ∙ w.passes }

-- each of the slots passes
pub slot-passes : (f : ℕ → Record → Bool) (i : ℕ) (rs : List Record) (k : ℕ) → Among (slots_where f i rs) k → Passing f i rs k
unfolding slots_where
slot-passes f i [] k h = absurd h
slot-passes f i (r ∷ rs) k h = go (f i r) refl (slot-passes f (suc i) rs k)
  where
    first : f i r ≡ true → (Among (slots_where f (suc i) rs) k → Passing f (suc i) rs k) → (i ≡ k) ⊎ Among (slots_where f (suc i) rs) k → Passing f i (r ∷ rs) k
    first e ih (inl q) =
        let here : i + 0 ≡ i = omega arith in
        record { off = 0; is = sym q ∙ sym here; place = omega arith; passes = ap (λ (n : ℕ). f n r) here ∙ e }
    first e ih (inr q) = passing-later f i r rs k (ih q)

    go : (t : Bool) → f i r ≡ t → (Among (slots_where f (suc i) rs) k → Passing f (suc i) rs k) → Passing f i (r ∷ rs) k
    go true e ih = first e ih (rw (where-here f i r rs e) at h)
    go false e ih = passing-later f i r rs k (ih (rw (where_next f i r rs e) at h))

-- and each that passes is among them
pub passes-slot : (f : ℕ → Record → Bool) (i : ℕ) (rs : List Record) (j : ℕ) → j < length rs → f (i + j) (record_at rs j) ≡ true → Among (slots_where f i rs) (i + j)
passes-slot f i [] j h e = absurd (not-suc-le-zero h)
passes-slot f i (r ∷ rs) zero h e =
    let here : i + 0 ≡ i = omega arith in
    rw (where-here f i r rs (ap (λ (n : ℕ). f n r) (sym here) ∙ e)) (inl (sym here))
passes-slot f i (r ∷ rs) (suc j) h e =
    let there : i + suc j ≡ suc i + j = omega arith in
    let w = passes-slot f (suc i) rs j (le_of_suc-le-suc h) (ap (λ (n : ℕ). f n (record_at rs j)) (sym there) ∙ e) in
    rw there (go (f i r) refl w)
  where
    go : (t : Bool) → f i r ≡ t → Among (slots_where f (suc i) rs) (suc i + j) → Among (slots_where f i (r ∷ rs)) (suc i + j)
    go true p w = rw (where-here f i r rs p) (inr w)
    go false p w = rw (where_next f i r rs p) w

-- the first that passes
first-from : (f : ℕ → Record → Bool) (i : ℕ) (rs : List Record) (d : ℕ) → 0 < length (slots_where f i rs)
    → (w : Passing f i rs (get_or (slots_where f i rs) 0 d)) × ((j : ℕ) → j < w.off → f (i + j) (record_at rs j) ≡ false)
unfolding slots_where passing-later
first-from f i [] d h = absurd (not-suc-le-zero h)
first-from f i (r ∷ rs) d h = go (f i r) refl (first-from f (suc i) rs d)
  where
    go : (t : Bool) → f i r ≡ t
        → (0 < length (slots_where f (suc i) rs) → (w : Passing f (suc i) rs (get_or (slots_where f (suc i) rs) 0 d)) × ((j : ℕ) → j < w.off → f (suc i + j) (record_at rs j) ≡ false))
        → (w : Passing f i (r ∷ rs) (get_or (slots_where f i (r ∷ rs)) 0 d)) × ((j : ℕ) → j < w.off → f (i + j) (record_at (r ∷ rs) j) ≡ false)
    go true e ih =
        let here : i + 0 ≡ i = omega arith in
        rw (where-here f i r rs e) (record { off = 0; is = sym here; place = omega arith; passes = ap (λ (n : ℕ). f n r) here ∙ e }, λ j l. absurd (not-suc-le-zero l))
    go false e ih =
        let w = ih (rw (where_next f i r rs e) at h) in
        rw (where_next f i r rs e) (passing-later f i r rs _ w.0, earlier w.0.off w.1)
      where
        earlier : (k : ℕ) → ((j : ℕ) → j < k → f (suc i + j) (record_at rs j) ≡ false) → (j : ℕ) → j < suc k → f (i + j) (record_at (r ∷ rs) j) ≡ false
        earlier k before zero l = let here : i + 0 ≡ i = omega arith in ap (λ (n : ℕ). f n r) here ∙ e
        earlier k before (suc j) l = let there : i + suc j ≡ suc i + j = omega arith in ap (λ (n : ℕ). f n (record_at rs j)) there ∙ before j (le_of_suc-le-suc l)

-- it is that, where there is one
pub lowest-empty : (n : ℕ) (rs : List Record) → 0 < length (empty_slots n rs) → Lowest n rs (lowest_empty n rs)
unfolding lowest_empty empty_slots
lowest-empty n rs h =
    let v = first-from (λ (i : ℕ) (r : Record). is_empty r) 0 (take n rs) n h in
    let w = v.0 in
    let is : get_or (slots_where (λ (i : ℕ) (r : Record). is_empty r) 0 (take n rs)) 0 n ≡ w.off = w.is ∙ zero-add w.off in
    let fit : w.off < min n (length rs) = rw length-take at w.place in
    let low : w.off < n = omega (arith, min-le_left n (length rs)) in
    rw is (record {
      place = low;
      room = omega (arith, min-le_right n (length rs));
      free = ap is_empty (sym (get_or-take n rs w.off empty_record low)) ∙ w.passes;
      first = λ j l. ap is_empty (sym (get_or-take n rs j empty_record (omega arith))) ∙ v.1 j l;
    })

-- where there is none, every slot of the n is a file's
pub none-empty : (n : ℕ) (rs : List Record) → length (empty_slots n rs) ≡ 0 → (j : ℕ) → j < n → j < length rs → is_empty (record_at rs j) ≡ false
unfolding empty_slots
none-empty n rs h j l m = go (empty-or-not (record_at rs j))
  where
    none : (ks : List ℕ) (k : ℕ) → length ks ≡ 0 → Among ks k → ⊥
    none [] k e a = a
    none (x ∷ xs) k e a = omega arith

    go : (is_empty (record_at rs j) ≡ true) ⊎ (is_empty (record_at rs j) ≡ false) → is_empty (record_at rs j) ≡ false
    go (inr e) = e
    go (inl e) =
        let short : j < length (take n rs) = rw length-take (le-min l m) in
        let same : is_empty (record_at (take n rs) j) ≡ true = ap is_empty (get_or-take n rs j empty_record l) ∙ e in
        absurd (none (slots_where (λ (i : ℕ) (r : Record). is_empty r) 0 (take n rs)) (0 + j) h (passes-slot (λ (i : ℕ) (r : Record). is_empty r) 0 (take n rs) j short same))
