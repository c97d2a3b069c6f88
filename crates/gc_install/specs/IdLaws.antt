-- Stores of ids that the table has already: no id comes or goes, and the table stays in form.
use Rattle.std.specs.Prelude.{◌≡◌, refl, ◌⊎◌, ◌≤◌, ◌<◌, ◌∷◌, ◌+◌}
use Rattle.std.proofs.Common.{sym, ap, ◌∙◌, subst, inl, inr, zero-le, arith}
use Rattle.std.proofs.lemmas.List.{length-map}
use Rattle.rules.specs.Base.{true, List, [], ℕ, suc, length, padded}
use Rattle.rules.specs.BaseLaws.{All}
use Rattle.rules.proofs.BaseLaws.{all_map, order}
use Rattle.rules.specs.declared.Entry.{Entry}
use Rattle.rules.specs.Ops.{Op, size_of, entries_of}
use Rattle.rules.specs.Table.{insert, insert_all}
use Rattle.rules.specs.TableLaws.{Rising, rise}
use Rattle.rules.proofs.TableLaws.{rising-insert, rising-insert-all, insert-next, insert-here}
use Rattle.rules.specs.Layout.{Table, table_ids, in_form, capacity_of, used_entries, laid_out}
use Rattle.rules.specs.LayoutLaws.{Used}
use Rattle.rules.proofs.LayoutLaws.{used-located, used-length, form-rising, laid-out-used, laid-out-ids, laid-out-length, used-laid-out, form-laid-out}
use Rattle.rules.specs.FileMapLaws.{Among}
use Rattle.location_table.specs.Tables.{Formed}
use Rattle.location_table.specs.EntryLaws.{used-insert}
use Rattle.install.specs.Adding.{taken}
pub use Rattle.table_merge.specs.NewIds.{ids_in}

-- every operation is on one of these ids
abbrev pub There : List ℕ → List Op → Type 0
There ids ops = All (λ (o : Op). Among ids o.id) ops

-- no id is below the least one
among-low : (f : ℕ) (es : List Entry) → Rising f es → (x : ℕ) → Among (ids_in es) x → f ≤ x
among-low f [] r x a = absurd a
among-low f (e ∷ es) (rise low r) x (inl q) = omega arith
among-low f (e ∷ es) (rise low r) x (inr a) = omega (arith, among-low (suc e.id) es r x a)

-- a store of an id that is there
pub insert-ids : (f : ℕ) (t : List Entry) → Rising f t → (n : Entry) → Among (ids_in t) n.id → ids_in (insert t n) ≡ ids_in t
unfolding insert
insert-ids f [] r n a = absurd a
insert-ids f (e ∷ es) (rise low r) n a = go (insert-ids (suc e.id) es r n) (order e.id n.id) a
  where
    go : (Among (ids_in es) n.id → ids_in (insert es n) ≡ ids_in es) → (e.id < n.id) ⊎ ((e.id ≡ n.id) ⊎ (n.id < e.id))
        → (e.id ≡ n.id) ⊎ Among (ids_in es) n.id → ids_in (insert (e ∷ es) n) ≡ e.id ∷ ids_in es
    go ih (inl h) (inl q) = absurd (omega arith)
    go ih (inl h) (inr q) = rw (insert-next e es n h) (ap (λ (xs : List ℕ). e.id ∷ xs) (ih q))
    go ih (inr (inl h)) q = rw (insert-here e es n h) (ap (λ (x : ℕ). x ∷ ids_in es) (sym h))
    go ih (inr (inr h)) (inl q) = absurd (omega arith)
    go ih (inr (inr h)) (inr q) = absurd (omega (arith, among-low (suc e.id) es r n.id q))

-- many stores of such
pub insert-all-ids : (t es : List Entry) → Rising 0 t → All (λ (e : Entry). Among (ids_in t) e.id) es → ids_in (insert_all t es) ≡ ids_in t
unfolding insert_all
insert-all-ids t [] r h = refl
insert-all-ids t (e ∷ es) r h =
    let same = insert-ids 0 t r e h.0 in
    insert-all-ids (insert t e) es (rising-insert 0 t e zero-le r) (all_map _ _ es (λ d a. subst (λ (xs : List ℕ). Among xs d.id) (sym same) a) h.1) ∙ same

-- no unused entry comes in by many stores
used-insert-all : (t es : List Entry) → Used t → All (λ (e : Entry). 0 < e.location) es → Used (insert_all t es)
unfolding insert_all
used-insert-all t [] u h = u
used-insert-all t (e ∷ es) u h = used-insert-all (insert t e) es (used-insert t e h.0 u) h.1

-- a file's lsn is above 0, so no absolute location is 0
taken-located : (lsn : ℕ) (es : List Entry) → 0 < lsn → All (λ (e : Entry). 0 < e.location) (taken lsn es)
taken-located lsn [] h = tt
taken-located lsn (e ∷ es) h = (omega (arith, h), taken-located lsn es h)

-- entries have the ids of their operations
taken-there : (ids : List ℕ) (lsn q : ℕ) (ops : List Op) → There ids ops → All (λ (e : Entry). Among ids e.id) (taken lsn (entries_of q ops))
unfolding entries_of
taken-there ids lsn q [] h = tt
taken-there ids lsn q (o ∷ os) h = (h.0, taken-there ids lsn (q + size_of o.content) os h.1)

-- the same ids in the same places, and in form
pub record SameIds (b after : Table) : Type 0 where
  pub ids : table_ids after ≡ table_ids b
  pub words : length after ≡ length b
  pub form : in_form after ≡ true
  pub used : length (used_entries after) ≡ length (used_entries b)

module _ (b : Table) (formed : Formed b) (lsn : ℕ) (ops : List Op) (there : There (ids_in (used_entries b)) ops) where
  -- the entries of a file on ids that are there
  stored-ids : ids_in (insert_all (used_entries b) (taken lsn (entries_of 0 ops))) ≡ ids_in (used_entries b)
  stored-ids = insert-all-ids (used_entries b) (taken lsn (entries_of 0 ops)) (form-rising b formed.form) (taken-there (ids_in (used_entries b)) lsn 0 ops there)

  -- take no room
  pub stored-length : length (insert_all (used_entries b) (taken lsn (entries_of 0 ops))) ≡ length (used_entries b)
  stored-length =
      sym (length-map (insert_all (used_entries b) (taken lsn (entries_of 0 ops))) (λ (e : Entry). e.id))
      ∙ ap length stored-ids ∙ length-map (used_entries b) (λ (e : Entry). e.id)

  -- so there is room for them
  pub stored-fits : length (insert_all (used_entries b) (taken lsn (entries_of 0 ops))) ≤ capacity_of b
  stored-fits = omega (arith, stored-length, used-length b)

  -- and they leave the ids of the buffer
  pub ids-stay : 0 < lsn → SameIds b (laid_out (capacity_of b) (insert_all (used_entries b) (taken lsn (entries_of 0 ops))))
  ids-stay some =
      let t = insert_all (used_entries b) (taken lsn (entries_of 0 ops)) in
      let used : Used t = used-insert-all (used_entries b) (taken lsn (entries_of 0 ops)) (used-located b) (taken-located lsn (entries_of 0 ops) some) in
      record {
        ids =
            laid-out-ids (capacity_of b) t ∙ ap (padded (capacity_of b)) stored-ids ∙ sym (laid-out-ids (capacity_of b) (used_entries b))
            ∙ ap table_ids (laid-out-used b formed.form formed.even);
        words = omega (arith, laid-out-length (capacity_of b) t stored-fits, formed.even);
        form = form-laid-out (capacity_of b) t used (rising-insert-all (used_entries b) (taken lsn (entries_of 0 ops)) (form-rising b formed.form));
        used = ap length (used-laid-out (capacity_of b) t used) ∙ stored-length;
      }
