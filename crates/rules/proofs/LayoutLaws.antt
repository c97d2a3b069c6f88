-- The table's buffer: lengths as facts, its ids and locations, and that a buffer laid out holds what was laid out.
use Rattle.std.specs.Prelude.{◌≡◌, refl, ◌⊎◌, ◌≤◌, ◌<◌, ◌∷◌, ◌++◌, ◌+◌, ◌-◌, ◌*◌, ◌%◌, ◌&&◌}
use Rattle.std.proofs.Common.{sym, ap, ap₂, ◌∙◌, inl, inr, zero-le, arith, eqb-true, eq-eqb, ne_eqb, leb-true, le-leb, length-append}
use Rattle.std.proofs.Math.Nat.{suc-sub-suc, sub-zero}
use Rattle.std.proofs.lemmas.List.{length-map, length-replicate}
use Rattle.rules.specs.Base.{true, List, [], map, ℕ, zero, suc, length, replicate, leb, eqb, zeros, padded}
use Rattle.rules.specs.Types.{Entry}
use Rattle.rules.proofs.BaseLaws.{and-true, and-holds, within-true, within-holds, zero-or-more, zeros-is, zeros-replicate, padded-length}
use Rattle.rules.specs.TableLaws.{Rising, rise, rise-end, Has}
use Rattle.rules.specs.Layout.{Table, table_ids, table_locations, alternating, lengths_in_range, capacity_of, form_from, in_form, used_in, used_entries, laid_out}
use Rattle.rules.specs.LayoutLaws.{LengthsInRange, Used}

-- lengths in range
pub lengths-in-range : (b : Table) → lengths_in_range b ≡ true → LengthsInRange b
unfolding lengths_in_range
lengths-in-range b e =
    let w = and-true (eqb (length b % 2) 0) _ e in
    let n = within-true _ _ _ w.1 in
    record { even = eqb-true _ _ w.0; some = n.0; most = n.1 }

-- and back
pub range-lengths-in : (b : Table) → LengthsInRange b → lengths_in_range b ≡ true
unfolding lengths_in_range
range-lengths-in b w = rw (eq-eqb (length b % 2) 0 w.even, within-holds 1 65536 (capacity_of b) w.some w.most)

-- ---- places
-- as many ids as entries
pub ids-count : (b : Table) → length (table_ids b) ≡ capacity_of b
unfolding table_ids
ids-count [] = refl
ids-count (i ∷ []) = refl
ids-count (i ∷ l ∷ ws) = omega (arith, ids-count ws)

-- and as many locations
pub locations-count : (b : Table) → length (table_locations b) ≡ capacity_of b
unfolding table_locations
locations-count [] = refl
locations-count (i ∷ []) = refl
locations-count (i ∷ l ∷ ws) = omega (arith, locations-count ws)

-- the ids of a buffer of ids and locations in turn are these ids
pub ids-alternating : (is ls : List ℕ) → length is ≡ length ls → table_ids (alternating is ls) ≡ is
unfolding table_ids alternating
ids-alternating [] ls h = refl
ids-alternating (i ∷ is) [] h = absurd (omega arith)
ids-alternating (i ∷ is) (l ∷ ls) h = ap (λ (xs : List ℕ). i ∷ xs) (ids-alternating is ls (omega arith))

-- and its locations these locations
pub locations-alternating : (is ls : List ℕ) → length is ≡ length ls → table_locations (alternating is ls) ≡ ls
unfolding table_locations alternating
locations-alternating [] [] h = refl
locations-alternating [] (l ∷ ls) h = absurd (omega arith)
locations-alternating (i ∷ is) [] h = absurd (omega arith)
locations-alternating (i ∷ is) (l ∷ ls) h = ap (λ (xs : List ℕ). l ∷ xs) (locations-alternating is ls (omega arith))

-- "twice the length"
pub alternating-length : (is ls : List ℕ) → length is ≡ length ls → length (alternating is ls) ≡ 2 * length is
unfolding alternating
alternating-length [] ls h = refl
alternating-length (i ∷ is) [] h = absurd (omega arith)
alternating-length (i ∷ is) (l ∷ ls) h = let n : length is ≡ length ls = omega arith in omega (arith, alternating-length is ls n)

-- a buffer of even length is its ids and locations in turn
pub in-turn : (b : Table) → length b % 2 ≡ 0 → alternating (table_ids b) (table_locations b) ≡ b
unfolding table_ids table_locations alternating
in-turn [] h = refl
in-turn (i ∷ []) h = absurd (omega arith)
in-turn (i ∷ l ∷ ws) h = ap (λ (xs : List ℕ). i ∷ l ∷ xs) (in-turn ws (omega arith))

-- so two of even length with the same ids and locations are one
pub same-table : (a b : Table) → length a % 2 ≡ 0 → length b % 2 ≡ 0 → table_ids a ≡ table_ids b → table_locations a ≡ table_locations b → a ≡ b
same-table a b m n is ls = sym (in-turn a m) ∙ ap₂ alternating is ls ∙ in-turn b n

-- ---- laid out
same_rest : (n : ℕ) (es : List Entry) → n - length (map (λ (e : Entry). e.location) es) ≡ n - length (map (λ (e : Entry). e.id) es)
same_rest n es = simp length-map

-- both lists have the same length, whatever is laid out
same-lengths : (n : ℕ) (es : List Entry) → length (padded n (map (λ (e : Entry). e.id) es)) ≡ length (padded n (map (λ (e : Entry). e.location) es))
unfolding padded
same-lengths n es = simp (length-append, length-map, length-replicate)

-- the ids in it
pub laid-out-ids : (n : ℕ) (es : List Entry) → table_ids (laid_out n es) ≡ padded n (map (λ (e : Entry). e.id) es)
unfolding laid_out
laid-out-ids n es = ids-alternating _ _ (same-lengths n es)

-- and the locations
pub laid-out-locations : (n : ℕ) (es : List Entry) → table_locations (laid_out n es) ≡ padded n (map (λ (e : Entry). e.location) es)
unfolding laid_out
laid-out-locations n es = locations-alternating _ _ (same-lengths n es)

-- the buffer has n entries, two words each
pub laid-out-length : (n : ℕ) (es : List Entry) → length es ≤ n → length (laid_out n es) ≡ 2 * n
unfolding laid_out
laid-out-length n es h =
    alternating-length (padded n (map (λ (e : Entry). e.id) es)) _ (same-lengths n es)
    ∙ ap (λ (k : ℕ). 2 * k) (padded-length n (map (λ (e : Entry). e.id) es) (omega (arith, length-map es (λ (e : Entry). e.id))))

pub laid-out-capacity : (n : ℕ) (es : List Entry) → length es ≤ n → capacity_of (laid_out n es) ≡ n
laid-out-capacity n es h = omega (arith, laid-out-length n es h)

pub laid-out-even : (n : ℕ) (es : List Entry) → length es ≤ n → length (laid_out n es) % 2 ≡ 0
laid-out-even n es h = omega (arith, laid-out-length n es h)

-- the clauses of used_in and form_from, by facts in the place of tests
module _ (i : ℕ) (is : List ℕ) (l : ℕ) (ls : List ℕ) where
  -- a used place
  pub used-more : 0 < l → used_in (i ∷ is) (l ∷ ls) ≡ record { id = i; location = l } ∷ used_in is ls
  unfolding used_in
  used-more h = rw (ne_eqb l 0 (λ z. omega arith))

  -- its id is not too low, and the rest decides
  pub form-more : (least : ℕ) → 0 < l → form_from least (i ∷ is) (l ∷ ls) ≡ (leb least i && form_from (suc i) is ls)
  unfolding form_from
  form-more least h = rw (ne_eqb l 0 (λ z. omega arith))

  -- "location 0 means unused", and used entries are first
  pub used-stop : l ≡ 0 → used_in (i ∷ is) (l ∷ ls) ≡ []
  unfolding used_in
  used-stop z = rw z

  -- "unused entries 0", here and behind
  pub form-stop : (least : ℕ) → l ≡ 0 → form_from least (i ∷ is) (l ∷ ls) ≡ (zeros (i ∷ is) && zeros ls)
  unfolding form_from
  form-stop least z = rw z

used-zeros : (k : ℕ) → used_in (replicate k 0) (replicate k 0) ≡ []
unfolding used_in
used-zeros zero = refl
used-zeros (suc k) = refl

form-zeros : (least k : ℕ) → form_from least (replicate k 0) (replicate k 0) ≡ true
unfolding form_from
form-zeros least zero = zeros-replicate 0
form-zeros least (suc k) = and-holds (zeros (0 ∷ replicate k 0)) (zeros (replicate k 0)) (zeros-replicate (suc k)) (zeros-replicate k)

used-back : (es : List Entry) (k : ℕ) → Used es → used_in (map (λ (e : Entry). e.id) es ++ replicate k 0) (map (λ (e : Entry). e.location) es ++ replicate k 0) ≡ es
used-back [] k u = used-zeros k
used-back (e ∷ es) k u = used-more e.id _ e.location _ (u e.id e.location (inl (refl, refl))) ∙ ap (λ (xs : List Entry). e ∷ xs) (used-back es k (λ x l h. u x l (inr h)))

form-back : (f : ℕ) (es : List Entry) (k : ℕ) → Used es → Rising f es → form_from f (map (λ (e : Entry). e.id) es ++ replicate k 0) (map (λ (e : Entry). e.location) es ++ replicate k 0) ≡ true
form-back f [] k u r = form-zeros f k
form-back f (e ∷ es) k u (rise a r) =
    form-more e.id _ e.location _ f (u e.id e.location (inl (refl, refl)))
    ∙ and-holds (leb f e.id) _ (le-leb f e.id a) (form-back (suc e.id) es k (λ x l h. u x l (inr h)) r)

-- a buffer that was laid out holds just these entries
pub used-laid-out : (n : ℕ) (es : List Entry) → Used es → used_entries (laid_out n es) ≡ es
unfolding used_entries padded
used-laid-out n es u = rw (laid-out-ids n es, laid-out-locations n es, same_rest n es) (used-back es (n - length (map (λ (e : Entry). e.id) es)) u)

-- and is in form
pub form-laid-out : (n : ℕ) (es : List Entry) → Used es → Rising 0 es → in_form (laid_out n es) ≡ true
unfolding in_form padded
form-laid-out n es u r = rw (laid-out-ids n es, laid-out-locations n es, same_rest n es) (form-back 0 es (n - length (map (λ (e : Entry). e.id) es)) u r)

-- ---- and the other way round: a buffer in form
-- what a used place says
form-next : (i : ℕ) (is : List ℕ) (l : ℕ) (ls : List ℕ) (least : ℕ) → 0 < l → form_from least (i ∷ is) (l ∷ ls) ≡ true → (least ≤ i) × (form_from (suc i) is ls ≡ true)
form-next i is l ls least h e =
    let w = and-true (leb least i) (form_from (suc i) is ls) (sym (form-more i is l ls least h) ∙ e) in
    (leb-true least i w.0, w.1)

-- its used entries have locations
used-in : (is ls : List ℕ) → Used (used_in is ls)
unfolding used_in
used-in [] ls x k h = absurd h
used-in (i ∷ is) [] x k h = absurd h
used-in (i ∷ is) (l ∷ ls) x k h = go (zero-or-more l) (used-in is ls x k)
  where
    go : (l ≡ 0) ⊎ (0 < l) → (Has (used_in is ls) x k → 0 < k) → 0 < k
    go (inl z) ih = absurd (rw (used-stop i is l ls z) at h)
    go (inr p) ih = first (rw (used-more i is l ls p) at h)
      where
        first : ((i ≡ x) × (l ≡ k)) ⊎ Has (used_in is ls) x k → 0 < k
        first (inl q) = omega (arith, q.1)
        first (inr q) = ih q

pub used-located : (b : Table) → Used (used_entries b)
unfolding used_entries
used-located b = used-in (table_ids b) (table_locations b)

-- are no more than its entries
used-short : (is ls : List ℕ) → length (used_in is ls) ≤ length is
unfolding used_in
used-short [] ls = zero-le
used-short (i ∷ is) [] = zero-le
used-short (i ∷ is) (l ∷ ls) = go (zero-or-more l) (used-short is ls)
  where
    go : (l ≡ 0) ⊎ (0 < l) → length (used_in is ls) ≤ length is → length (used_in (i ∷ is) (l ∷ ls)) ≤ suc (length is)
    go (inl z) ih = rw (used-stop i is l ls z) zero-le
    go (inr p) ih = rw (used-more i is l ls p) (omega arith)

pub used-length : (b : Table) → length (used_entries b) ≤ capacity_of b
unfolding used_entries
used-length b = omega (arith, used-short (table_ids b) (table_locations b), ids-count b)

-- rise, in form
form-rises : (f : ℕ) (is ls : List ℕ) → form_from f is ls ≡ true → Rising f (used_in is ls)
unfolding used_in
form-rises f [] ls e = rise-end
form-rises f (i ∷ is) [] e = rise-end
form-rises f (i ∷ is) (l ∷ ls) e = go (zero-or-more l) (form-rises (suc i) is ls)
  where
    go : (l ≡ 0) ⊎ (0 < l) → (form_from (suc i) is ls ≡ true → Rising (suc i) (used_in is ls)) → Rising f (used_in (i ∷ is) (l ∷ ls))
    go (inl z) ih = rw (used-stop i is l ls z) rise-end
    go (inr p) ih = let w = form-next i is l ls f p e in rw (used-more i is l ls p) (rise w.0 (ih w.1))

-- in form its ids rise
pub form-rising : (b : Table) → in_form b ≡ true → Rising 0 (used_entries b)
unfolding used_entries in_form
form-rising b e = form-rises 0 (table_ids b) (table_locations b) e

-- and laid out again are the same ids and locations
again : (f : ℕ) (is ls : List ℕ) → form_from f is ls ≡ true → length is ≡ length ls
    → (padded (length is) (map (λ (e : Entry). e.id) (used_in is ls)) ≡ is) × (padded (length is) (map (λ (e : Entry). e.location) (used_in is ls)) ≡ ls)
unfolding used_in padded
again f [] [] e n = (refl, refl)
again f [] (l ∷ ls) e n = absurd (omega arith)
again f (i ∷ is) [] e n = absurd (omega arith)
again f (i ∷ is) (l ∷ ls) e n = go (zero-or-more l) (again (suc i) is ls)
  where
    go : (l ≡ 0) ⊎ (0 < l)
        → (form_from (suc i) is ls ≡ true → length is ≡ length ls
        → (padded (length is) (map (λ (e : Entry). e.id) (used_in is ls)) ≡ is) × (padded (length is) (map (λ (e : Entry). e.location) (used_in is ls)) ≡ ls))
        → (padded (suc (length is)) (map (λ (e : Entry). e.id) (used_in (i ∷ is) (l ∷ ls))) ≡ i ∷ is)
        × (padded (suc (length is)) (map (λ (e : Entry). e.location) (used_in (i ∷ is) (l ∷ ls))) ≡ l ∷ ls)
    go (inl z) ih =
        let w = and-true (zeros (i ∷ is)) (zeros ls) (sym (form-stop i is l ls f z) ∙ e) in
        let m : length is ≡ length ls = omega arith in
        rw (used-stop i is l ls z, sub-zero) (sym (zeros-is (i ∷ is) w.0), ap₂ (λ (x : ℕ) (xs : List ℕ). x ∷ xs) (sym z) (ap (λ (k : ℕ). replicate k 0) m ∙ sym (zeros-is ls w.1)))
    go (inr p) ih =
        let w = form-next i is l ls f p e in
        let v = ih w.1 (omega arith) in
        simp (used-more i is l ls p, suc-sub-suc)
        (ap (λ (xs : List ℕ). i ∷ xs) v.0, ap (λ (xs : List ℕ). l ∷ xs) v.1)

-- a buffer in form is its used entries, laid out
pub laid-out-used : (b : Table) → in_form b ≡ true → length b % 2 ≡ 0 → laid_out (capacity_of b) (used_entries b) ≡ b
unfolding used_entries in_form laid_out
laid-out-used b e n =
    let w = again 0 (table_ids b) (table_locations b) e (ids-count b ∙ sym (locations-count b)) in
    ap (λ (k : ℕ). laid_out k (used_in (table_ids b) (table_locations b))) (sym (ids-count b)) ∙ ap₂ alternating w.0 w.1 ∙ in-turn b n
