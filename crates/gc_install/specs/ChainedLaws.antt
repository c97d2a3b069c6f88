-- The operations of a file of a group: each is on an id that the table has.
use Rattle.std.specs.Prelude.{◌≡◌, refl, ◌<◌, ◌∷◌, ◌+◌, ◌^◌}
use Rattle.std.proofs.Common.{inl, inr, arith}
use Rattle.rules.specs.Base.{Bool, true, false, List, [], ℕ, zero, suc, length, get_or, eqb, pick}
use Rattle.rules.specs.BaseLaws.{All}
use Rattle.rules.specs.declared.Entry.{Entry}
use Rattle.rules.specs.Ops.{Op}
use Rattle.rules.specs.OpsLaws.{IdsFit}
use Rattle.rules.specs.FileMapLaws.{Among}
use Rattle.rules.specs.Layout.{Table, table_ids, table_locations, used_in, used_entries}
use Rattle.batch.specs.declared.Operation.{Operation}
use Rattle.gc_files.specs.Places.{length_at, moving_at, OfUsed}
use Rattle.gc_chains.specs.Chains.{chain_ops}
use Rattle.gc_chains.specs.ChainLaws.{chain-each}
use Rattle.gc_install.specs.IdLaws.{ids_in, There}

-- an operation at a place is on its id
moving-id : (heap : List ℕ) (id place : ℕ) → (moving_at heap id place).id ≡ id
unfolding moving_at
moving-id heap id place = go (eqb place 1)
  where
    go : (t : Bool) → (pick {A = Operation} t (record { id = id; delete = true; start = 0; len = 0 }) (record { id = id; delete = false; start = place + 20; len = length_at heap place })).id ≡ id
    go true = refl
    go false = refl

-- what holds of each id that is moved holds of each operation's
pub chain-ids : (P : ℕ → Type 0) (first : ℕ) (heap xs ps ls : List ℕ) → ((i : ℕ) → i < length xs → 0 < get_or ps i 0 → P (get_or xs i 0))
    → All (λ (o : Op). P o.id) (chain_ops first heap xs ps ls)
chain-ids P first heap xs ps ls h = chain-each (λ (o : Op). P o.id) heap first 1 xs ps ls (λ i low moved. rw (moving-id heap (get_or xs i 0) (get_or ps i 0)) (h i low moved))

-- the id of a used entry is one of the table's
used-among : (is ls : List ℕ) (i : ℕ) → i < length (used_in is ls) → Among (ids_in (used_in is ls)) (get_or is i 0)
unfolding used_in
used-among [] ls i h = absurd (omega arith)
used-among (x ∷ is) [] i h = absurd (omega arith)
used-among (x ∷ is) (l ∷ ls) i h = go (eqb l 0) i h (used-among is ls)
  where
    us : List Entry
    us = used_in is ls

    go : (t : Bool) (i : ℕ) → i < length (pick t [] (record { id = x; location = l } ∷ us)) → ((j : ℕ) → j < length us → Among (ids_in us) (get_or is j 0))
        → Among (ids_in (pick t [] (record { id = x; location = l } ∷ us))) (get_or (x ∷ is) i 0)
    go true i h ih = absurd (omega arith)
    go false zero h ih = inl refl
    go false (suc i) h ih = inr (ih i (omega arith))

-- so each operation is on an id of the table
pub chain-there : (first : ℕ) (heap : List ℕ) (b : Table) (places links : List ℕ) → OfUsed b places
    → There (ids_in (used_entries b)) (chain_ops first heap (table_ids b) places links)
unfolding used_entries
chain-there first heap b places links used =
    chain-ids (Among (ids_in (used_entries b))) first heap (table_ids b) places links (λ i l m. used-among (table_ids b) (table_locations b) i (used i m))

-- and has an id of 64 bits
pub chain-fit : (first : ℕ) (heap ids places links : List ℕ) → ((i : ℕ) → i < length ids → get_or ids i 0 < 2 ^ 64) → IdsFit (chain_ops first heap ids places links)
chain-fit first heap ids places links fit = chain-ids (λ (x : ℕ). x < 2 ^ 64) first heap ids places links (λ i l m. fit i l)
