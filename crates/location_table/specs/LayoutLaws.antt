-- The words of the table, its places and the used entries in them.
use Rattle.std.specs.Prelude.{◌≡◌, ◌⊎◌, ◌<◌, ◌≤◌, ◌&&◌, ◌∷◌, ◌++◌, ◌+◌, ◌-◌, ◌*◌}
use Rattle.std.proofs.Math.Path.{refl, ap, ap₂}
use Rattle.std.proofs.Common.{sym, ◌∙◌, inl, inr, le_of_suc-le-suc, not-suc-le-zero, length-append, length-set}
use Rattle.rules.specs.Base.{true, List, [], map, ℕ, zero, suc, length, get_or, set, replicate, padded}
use Rattle.std.proofs.Math.Nat.{sub-zero, suc-sub-suc}
use native.Mathlib.Omega.{arith}
use Rattle.std.proofs.lemmas.List.{length-map}
use Rattle.std.proofs.Math.ListN.{get_or-eq_default}
use Rattle.rules.proofs.BaseLaws.{order, and-true, zero-or-more, replicate-at}
use Rattle.rules.specs.declared.Entry.{Entry}
use Rattle.rules.specs.Layout.{Table, table_ids, table_locations, capacity_of, lengths_in_range, in_form, used_in, used_entries, laid_out}
use Rattle.rules.specs.TableLaws.{Rising}
use Rattle.rules.specs.LayoutLaws.{Used}
use Rattle.rules.proofs.LayoutLaws.{lengths-in-range, used-located, form-rising, laid-out-used, laid-out-even, laid-out-locations, form-laid-out, used-more, used-stop}
use Rattle.rules.specs.Table.{no_entry}
use Rattle.location_table.specs.Tables.{Formed, with_pair}
use Rattle.location_table.specs.EntryLaws.{has-at}

-- ---- a place's two words
-- the id of place k is word 2k
pub id-word : (b : Table) (k : ℕ) → k < capacity_of b → get_or b (2 * k) 0 ≡ get_or (table_ids b) k 0
unfolding table_ids
id-word [] k h = absurd (omega arith)
id-word (i ∷ []) k h = absurd (omega arith)
id-word (i ∷ l ∷ ws) zero h = refl
id-word (i ∷ l ∷ ws) (suc k) h = let q : 2 * suc k ≡ suc (suc (2 * k)) = omega arith in ap (λ (n : ℕ). get_or (i ∷ l ∷ ws) n 0) q ∙ id-word ws k (omega arith)

-- its location word 2k + 1
pub location-word : (b : Table) (k : ℕ) → k < capacity_of b → get_or b (2 * k + 1) 0 ≡ get_or (table_locations b) k 0
unfolding table_locations
location-word [] k h = absurd (omega arith)
location-word (i ∷ []) k h = absurd (omega arith)
location-word (i ∷ l ∷ ws) zero h = refl
location-word (i ∷ l ∷ ws) (suc k) h =
    let q : 2 * suc k + 1 ≡ suc (suc (2 * k + 1)) = omega arith in
    ap (λ (n : ℕ). get_or (i ∷ l ∷ ws) n 0) q ∙ location-word ws k (omega arith)

-- an entry replaced: its id, its location, and the length
module _ (id location : ℕ) where
  pub pair-ids : (b : Table) (k : ℕ) → k < capacity_of b → table_ids (with_pair b k id location) ≡ set (table_ids b) k id
  unfolding table_ids
  pair-ids [] k h = absurd (omega arith)
  pair-ids (i ∷ []) k h = absurd (omega arith)
  pair-ids (i ∷ l ∷ ws) zero h = refl
  pair-ids (i ∷ l ∷ ws) (suc k) h =
      let q : 2 * suc k ≡ suc (suc (2 * k)) = omega arith in
      let r : 2 * suc k + 1 ≡ suc (suc (2 * k + 1)) = omega arith in
      ap₂ (λ (m n : ℕ). table_ids (set (set (i ∷ l ∷ ws) m id) n location)) q r ∙ ap (λ (xs : List ℕ). i ∷ xs) (pair-ids ws k (omega arith))

  pub pair-locations : (b : Table) (k : ℕ) → k < capacity_of b → table_locations (with_pair b k id location) ≡ set (table_locations b) k location
  unfolding table_locations
  pair-locations [] k h = absurd (omega arith)
  pair-locations (i ∷ []) k h = absurd (omega arith)
  pair-locations (i ∷ l ∷ ws) zero h = refl
  pair-locations (i ∷ l ∷ ws) (suc k) h =
      let q : 2 * suc k ≡ suc (suc (2 * k)) = omega arith in
      let r : 2 * suc k + 1 ≡ suc (suc (2 * k + 1)) = omega arith in
      ap₂ (λ (m n : ℕ). table_locations (set (set (i ∷ l ∷ ws) m id) n location)) q r ∙ ap (λ (xs : List ℕ). l ∷ xs) (pair-locations ws k (omega arith))

  pub pair-length : (b : Table) (k : ℕ) → length (with_pair b k id location) ≡ length b
  pair-length b k = length-set (set b (2 * k) id) (2 * k + 1) location ∙ length-set b (2 * k) id

-- ---- the used entries are what stands in its places, form or not
at-id : (is ls : List ℕ) (k : ℕ) → k < length (used_in is ls) → get_or is k 0 ≡ (get_or (used_in is ls) k no_entry).id
unfolding used_in
at-id [] ls k h = absurd (not-suc-le-zero h)
at-id (i ∷ is) [] k h = absurd (not-suc-le-zero h)
at-id (i ∷ is) (l ∷ ls) k h = go (at-id is ls) k h (zero-or-more l)
  where
    go : ((k : ℕ) → k < length (used_in is ls) → get_or is k 0 ≡ (get_or (used_in is ls) k no_entry).id)
        → (k : ℕ) → k < length (used_in (i ∷ is) (l ∷ ls)) → (l ≡ 0) ⊎ (0 < l)
        → get_or (i ∷ is) k 0 ≡ (get_or (used_in (i ∷ is) (l ∷ ls)) k no_entry).id
    go ih k h (inl q) = absurd (not-suc-le-zero (rw (used-stop i is l ls q) at h))
    go ih zero h (inr q) = rw (used-more i is l ls q)
    go ih (suc k) h (inr q) = rw (used-more i is l ls q) (ih k (le_of_suc-le-suc (rw (used-more i is l ls q) at h)))

at-location : (is ls : List ℕ) (k : ℕ) → k < length (used_in is ls) → get_or ls k 0 ≡ (get_or (used_in is ls) k no_entry).location
unfolding used_in
at-location [] ls k h = absurd (not-suc-le-zero h)
at-location (i ∷ is) [] k h = absurd (not-suc-le-zero h)
at-location (i ∷ is) (l ∷ ls) k h = go (at-location is ls) k h (zero-or-more l)
  where
    go : ((k : ℕ) → k < length (used_in is ls) → get_or ls k 0 ≡ (get_or (used_in is ls) k no_entry).location)
        → (k : ℕ) → k < length (used_in (i ∷ is) (l ∷ ls)) → (l ≡ 0) ⊎ (0 < l)
        → get_or (l ∷ ls) k 0 ≡ (get_or (used_in (i ∷ is) (l ∷ ls)) k no_entry).location
    go ih k h (inl q) = absurd (not-suc-le-zero (rw (used-stop i is l ls q) at h))
    go ih zero h (inr q) = rw (used-more i is l ls q)
    go ih (suc k) h (inr q) = rw (used-more i is l ls q) (ih k (le_of_suc-le-suc (rw (used-more i is l ls q) at h)))

-- ---- padding
padded-cons : (n : ℕ) (ns : List ℕ) (m : ℕ) → padded (suc m) (n ∷ ns) ≡ n ∷ padded m ns
unfolding padded
padded-cons n ns m = rw suc-sub-suc

padded-nil : (m : ℕ) → padded m [] ≡ replicate m 0
unfolding padded
padded-nil m = rw sub-zero

-- past the end of what is padded stand zeros
padded-past : (ns : List ℕ) (m k : ℕ) → length ns ≤ k → get_or (padded m ns) k 0 ≡ 0
unfolding padded
padded-past [] m k h = rw (padded-nil m) (replicate-at {A = ℕ} m k 0)
padded-past (n ∷ ns) zero zero h = absurd (not-suc-le-zero h)
padded-past (n ∷ ns) (suc m) zero h = absurd (not-suc-le-zero h)
padded-past (n ∷ ns) (suc m) (suc k) h = rw (padded-cons n ns m) (padded-past ns m k (le_of_suc-le-suc h))
padded-past (n ∷ ns) zero (suc k) h = over n ns k (le_of_suc-le-suc h)
  where
    over : (n : ℕ) (ns : List ℕ) (k : ℕ) → length ns ≤ k → get_or (padded zero (n ∷ ns)) (suc k) 0 ≡ 0
    over n ns k h =
        let z : zero - suc (length ns) ≡ 0 = omega arith in
        rw z (get_or-eq_default ((n ∷ ns) ++ []) 0 {n = suc k} (simp length-append (omega arith)))

-- ---- of the table
module _ (b : Table) where
  pub used-id : (k : ℕ) → k < length (used_entries b) → get_or (table_ids b) k 0 ≡ (get_or (used_entries b) k no_entry).id
  unfolding used_entries
  used-id k h = at-id (table_ids b) (table_locations b) k h

  pub used-location : (k : ℕ) → k < length (used_entries b) → get_or (table_locations b) k 0 ≡ (get_or (used_entries b) k no_entry).location
  unfolding used_entries
  used-location k h = at-location (table_ids b) (table_locations b) k h

  module _ (formed : Formed b) where
    pub used-rising : Rising 0 (used_entries b)
    used-rising = form-rising b formed.form

    -- the buffer is its used entries, laid out
    pub laid_out_lem : b ≡ laid_out (capacity_of b) (used_entries b)
    laid_out_lem = sym (laid-out-used b formed.form formed.even)

    -- a used place has a location
    pub zero-unused : (k : ℕ) → get_or (table_locations b) k 0 ≡ 0 → length (used_entries b) ≤ k
    zero-unused k z = go (order k (length (used_entries b)))
      where
        go : (k < length (used_entries b)) ⊎ ((k ≡ length (used_entries b)) ⊎ (length (used_entries b) < k)) → length (used_entries b) ≤ k
        go (inl q) =
            let p = used-located b _ _ (has-at (used_entries b) k q) in
            let e = used-location k q in
            omega arith
        go (inr (inl q)) = omega arith
        go (inr (inr q)) = omega arith

    -- and a place with a location is used
    pub not-zero-used : (k : ℕ) → (get_or (table_locations b) k 0 ≡ 0 → ⊥) → k < length (used_entries b)
    not-zero-used k z = go (order k (length (used_entries b)))
      where
        past : length (used_entries b) ≤ k → get_or (table_locations b) k 0 ≡ 0
        past q =
            let m : length (map (λ (e : Entry). e.location) (used_entries b)) ≤ k = rw (length-map (used_entries b) (λ (e : Entry). e.location)) q in
            ap (λ (t : Table). get_or (table_locations t) k 0) laid_out_lem
            ∙ ap (λ (ls : List ℕ). get_or ls k 0) (laid-out-locations (capacity_of b) (used_entries b))
            ∙ padded-past (map (λ (e : Entry). e.location) (used_entries b)) (capacity_of b) k m

        go : (k < length (used_entries b)) ⊎ ((k ≡ length (used_entries b)) ⊎ (length (used_entries b) < k)) → k < length (used_entries b)
        go (inl q) = q
        go (inr (inl q)) = absurd (z (past (omega arith)))
        go (inr (inr q)) = absurd (z (past (omega arith)))

-- used entries that rise, laid out, are in form
pub laid-out-formed : (m : ℕ) (es : List Entry) → Used es → Rising 0 es → length es ≤ m → Formed (laid_out m es)
laid-out-formed m es u r h = record { even = laid-out-even m es h; form = form-laid-out m es u r }

-- a table that passed refusal 1
pub formed-of : (b : Table) → (lengths_in_range b && in_form b) ≡ true → Formed b
formed-of b h =
    let t = and-true (lengths_in_range b) (in_form b) h in
    record { even = (lengths-in-range b t.0).even; form = t.1 }
