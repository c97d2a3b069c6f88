-- "The four table calls are proved to give the same answers under the old and new layout, once over the number of entries."
use Rattle.std.specs.Prelude.{◌≡◌, ◌&&◌, ◌||◌, ◌∷◌, ◌%◌, Err, Ok}
use Rattle.std.proofs.Math.Path.{refl, sym, ap, ap₂}
use Rattle.std.proofs.Common.{subst, ◌∙◌, arith, length-append}
use borrow.Author.Tests.{eq-eqb, ne_eqb}
use Rattle.std.proofs.lemmas.List.{length-map, length-replicate}
use Rattle.rules.specs.Base.{Bool, true, false, not, List, [], map, ℕ, length, eqb, pick, padded, within}
use Rattle.rules.specs.declared.Entry.{Entry}
use Rattle.rules.specs.Types.{Held, Answer}
use Rattle.rules.specs.declared.Refusal.{Refusal}
use Rattle.rules.specs.declared.Refusal.TheVariants.{Limits, TableRoom, NotThere, EqualLocation, Location}
use Rattle.rules.specs.Refusal.{◌gives◌, decide, after}
use Rattle.rules.proofs.RefusalLaws.{decide-first}
use Rattle.rules.specs.Table.{lookup, loaded_of, insert, unmapped, mapped_to, full}
use Rattle.rules.specs.Layout.{Table, table_ids, table_locations, alternating, capacity_of, lengths_in_range, in_form, used_entries, laid_out}
use Rattle.rules.proofs.LayoutLaws.{ids-count, locations-count, ids-alternating, locations-alternating, alternating-length, laid-out-ids, laid-out-locations, same-table}
use Rattle.rules.specs.TableCalls.{TableAfter, not_form, same, with_stored, below, load_call, store_call, compare_call, greater_call}
use Rattle.rules.specs.World.{accepted, refused, loaded_given, held_given}
use Rattle.two_buffers.specs.TwoBuffers as two
use Rattle.two_buffers.specs.TwoBuffers.{Buffers}
use Rattle.two_buffers.specs.SameCalls.{Alike, Same}

-- whatever two equal-length buffers hold, one buffer holds the same
pub joined : (ids locations : List ℕ) → length ids ≡ length locations → Alike (record { ids = ids; locations = locations }) (alternating ids locations)
joined is ls h = record {
  ids = sym (ids-alternating is ls h);
  locations = sym (locations-alternating is ls h);
  even = omega (arith, alternating-length is ls h);
}

-- and whatever one buffer of even length holds, two do
pub parted : (b : Table) → length b % 2 ≡ 0 → Alike (record { ids = table_ids b; locations = table_locations b }) b
parted b h = record { ids = refl; locations = refl; even = h }

-- there is just one such buffer
pub alike-one : (old : Buffers) (a b : Table) → Alike old a → Alike old b → a ≡ b
alike-one old a b p q = same-table a b p.even q.even (sym p.ids ∙ q.ids) (sym p.locations ∙ q.locations)

-- ---- what the calls ask of a table is the same of both
module _ (b : Table) (even : length b % 2 ≡ 0) where
  abbrev apart : Buffers
  apart = record { ids = table_ids b; locations = table_locations b }

  same-lengths : two.lengths_in_range apart ≡ lengths_in_range b
  unfolding two.lengths_in_range lengths_in_range
  same-lengths =
      rw (eq-eqb (length (table_ids b)) (length (table_locations b)) (ids-count b ∙ sym (locations-count b)), eq-eqb (length b % 2) 0 even)
      (ap (within 1 65536) (ids-count b))

  same-form : two.not_form apart ≡ not_form b
  unfolding two.in_form in_form
  same-form = ap (λ (t : Bool). not (t && in_form b)) same-lengths

  same_entries : two.used_entries apart ≡ used_entries b
  unfolding two.used_entries used_entries
  same_entries = refl

  same_full : (id : ℕ) → full (two.used_entries apart) (two.capacity_of apart) id ≡ full (used_entries b) (capacity_of b) id
  same_full id = ap₂ (λ (es : List Entry) (n : ℕ). full es n id) same_entries (ids-count b)

  same-held : (id : ℕ) → lookup (two.used_entries apart) id ≡ lookup (used_entries b) id
  same-held id = ap (λ (es : List Entry). lookup es id) same_entries

  -- a store leaves equal contents
  same-stored : (id raw : ℕ) → Alike (two.with_stored apart id raw) (with_stored b id raw)
  unfolding two.with_stored two.laid_out with_stored laid_out padded
  same-stored id raw = record {
    ids = ap₂ (λ (m : ℕ) (xs : List Entry). padded m (map (λ (e : Entry). e.id) (insert xs (record { id = id; location = raw })))) (ids-count b) same_entries ∙ sym (laid-out-ids n es);
    locations = ap₂ (λ (m : ℕ) (xs : List Entry). padded m (map (λ (e : Entry). e.location) (insert xs (record { id = id; location = raw })))) (ids-count b) same_entries ∙ sym (laid-out-locations n es);
    even = omega (arith, alternating-length (padded n (map (λ (e : Entry). e.id) es)) (padded n (map (λ (e : Entry). e.location) es)) lengths);
  }
    where
      n : ℕ
      n = capacity_of b

      es : List Entry
      es = insert (used_entries b) (record { id = id; location = raw })

      lengths : length (padded n (map (λ (e : Entry). e.id) es)) ≡ length (padded n (map (λ (e : Entry). e.location) es))
      lengths = simp (length-append, length-map, length-replicate)

  -- decided alike, and accepted alike: the same
  decided : (d e : Answer) (x : two.TableAfter) (y : TableAfter) → d ≡ e → Same x y
      → Same (after d (λ (r : Refusal). two.same apart (refused r)) x) (after e (λ (r : Refusal). same b (refused r)) y)
  decided d e x y h s = subst (λ (c : Answer). Same (after c (λ (r : Refusal). two.same apart (refused r)) x) (after e (λ (r : Refusal). same b (refused r)) y)) (sym h) (go e)
    where
      go : (e : Answer) → Same (after e (λ (r : Refusal). two.same apart (refused r)) x) (after e (λ (r : Refusal). same b (refused r)) y)
      go (Ok _) = s
      go (Err r) = record { answer = refl; table = parted b even }

  -- ---- the four calls
  load_apart : (id : ℕ) → Same (two.load_call apart id) (load_call b id)
  unfolding two.load_call load_call
  load_apart id = record {
    answer = ap₂ (λ (t : Bool) (h : Held). after (decide (t gives Limits ∷ [])) refused (loaded_given (loaded_of h))) same-form (same-held id);
    table = parted b even;
  }

  store_apart : (id raw : ℕ) → Same (two.store_call apart id raw) (store_call b id raw)
  unfolding two.store_call store_call
  store_apart id raw =
      decided _ _ _ _ (ap₂ (λ (t u : Bool). decide (t gives Limits ∷ eqb raw 0 gives Location ∷ u gives TableRoom ∷ [])) same-form (same_full id))
      (record { answer = refl; table = same-stored id raw })

  compare-apart : (id was raw : ℕ) → Same (two.compare_call apart id was raw) (compare_call b id was raw)
  unfolding two.compare_call compare_call
  compare-apart id was raw =
      decided _ _ _ _ (ap₂ (λ (t : Bool) (h : Held). decide (t gives Limits ∷ (eqb was 0 || eqb raw 0) gives Location ∷ unmapped h gives NotThere ∷ [])) same-form (same-held id))
      (subst (λ (h : Held). Same (pick (mapped_to h was) (record { answer = accepted []; table = two.with_stored apart id raw }) (two.same apart (held_given h)))
      (pick (mapped_to (lookup (used_entries b) id) was) (record { answer = accepted []; table = with_stored b id raw }) (same b (held_given (lookup (used_entries b) id)))))
      (sym (same-held id)) (go (mapped_to (lookup (used_entries b) id) was)))
    where
      go : (t : Bool) → Same (pick t (record { answer = accepted []; table = two.with_stored apart id raw }) (two.same apart (held_given (lookup (used_entries b) id))))
          (pick t (record { answer = accepted []; table = with_stored b id raw }) (same b (held_given (lookup (used_entries b) id))))
      go true = record { answer = refl; table = same-stored id raw }
      go false = record { answer = refl; table = parted b even }

  greater-apart : (id raw : ℕ) → Same (two.greater_call apart id raw) (greater_call b id raw)
  unfolding two.greater_call greater_call
  greater-apart id raw =
      decided _ _ _ _
      (λ i. decide (same-form i gives Limits ∷ eqb raw 0 gives Location ∷ mapped_to (same-held id i) raw gives EqualLocation ∷ same_full id i gives TableRoom ∷ []))
      (subst (λ (h : Held). Same (record { answer = held_given h; table = pick (below h raw) (two.with_stored apart id raw) apart })
      (record { answer = held_given (lookup (used_entries b) id); table = pick (below (lookup (used_entries b) id) raw) (with_stored b id raw) b }))
      (sym (same-held id)) (record { answer = refl; table = go (below (lookup (used_entries b) id) raw) }))
    where
      go : (t : Bool) → Alike (pick t (two.with_stored apart id raw) apart) (pick t (with_stored b id raw) b)
      go true = same-stored id raw
      go false = parted b even

-- ---- LAWS: any number of entries, any contents, in form or not; equal contents give equal answers and equal contents after it
module _ (old : Buffers) (new : Table) (a : Alike old new) where
  is-apart : old ≡ apart new a.even
  is-apart = λ i. record { ids = a.ids i; locations = a.locations i }

  -- "load"
  pub load_same : (id : ℕ) → Same (two.load_call old id) (load_call new id)
  load_same id = subst (λ (b : Buffers). Same (two.load_call b id) (load_call new id)) (sym is-apart) (load_apart new a.even id)

  -- "store"
  pub store_same : (id raw : ℕ) → Same (two.store_call old id raw) (store_call new id raw)
  store_same id raw = subst (λ (b : Buffers). Same (two.store_call b id raw) (store_call new id raw)) (sym is-apart) (store_apart new a.even id raw)

  -- "compare-and-store"
  pub compare_same : (id was raw : ℕ) → Same (two.compare_call old id was raw) (compare_call new id was raw)
  compare_same id was raw = subst (λ (b : Buffers). Same (two.compare_call b id was raw) (compare_call new id was raw)) (sym is-apart) (compare-apart new a.even id was raw)

  -- "store-if-greater"
  pub greater-same : (id raw : ℕ) → Same (two.greater_call old id raw) (greater_call new id raw)
  greater-same id raw = subst (λ (b : Buffers). Same (two.greater_call b id raw) (greater_call new id raw)) (sym is-apart) (greater-apart new a.even id raw)

-- ---- LAWS: "1 also for an odd length", and no word changes
module _ (b : Table) (odd : length b % 2 ≡ 1) where
  odd-form : not_form b ≡ true
  unfolding lengths_in_range
  odd-form = rw (ne_eqb (length b % 2) 0 (λ h. omega arith)) refl

  pub load-odd : (id : ℕ) → load_call b id ≡ same b (refused Limits)
  unfolding load_call
  load-odd id = rw (decide-first (not_form b) Limits [] odd-form)

  pub store-odd : (id raw : ℕ) → store_call b id raw ≡ same b (refused Limits)
  unfolding store_call
  store-odd id raw = rw (decide-first (not_form b) Limits _ odd-form)

  pub compare-odd : (id was raw : ℕ) → compare_call b id was raw ≡ same b (refused Limits)
  unfolding compare_call
  compare-odd id was raw = rw (decide-first (not_form b) Limits _ odd-form)

  pub greater-odd : (id raw : ℕ) → greater_call b id raw ≡ same b (refused Limits)
  unfolding greater_call
  greater-odd id raw = rw (decide-first (not_form b) Limits _ odd-form)
