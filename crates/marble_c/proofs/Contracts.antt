-- The contract of each call for C is the relation of which `Unique` says that it admits one result: what a caller learns from the code, by computation.
use Rattle.std.proofs.Common.{◌≡◌, refl, List, [], ◌∷◌, get_or, ℕ}
use Rattle.std.specs.Borrow.{Bor, MutBor}
use contract.Lifetimes.{Lfts}
use Rattle.rules.specs.declared.Settings.{Settings}
use Rattle.rules.specs.declared.Record.{Record}
use Rattle.location_table.specs.Tables.{leaving as table_leaving}
use Rattle.as_numbers.specs.Shown.{given}
use Rattle.marble_c.specs.Salvages.{rescue}
use Rattle.marble_c.specs.Unique.{Reopens, Writes, ReadsOut, ReadsThroughOut, ClaimsSlot, Releases, Prunes, PlansOut, RewritesOut, NightlyOut, CountsOut, CountsUnsynced, Syncs, ChecksOut, SalvagesOut, Loads, Stores, Compares, StoresGreater}
use Rattle.marble_c.proofs.marble_reopen.Reads as reopen
use Rattle.marble_c.proofs.marble_write.Reads as write
use Rattle.marble_c.proofs.marble_read.Reads as read
use Rattle.marble_c.proofs.marble_read_through.Reads as read_through
use Rattle.marble_c.proofs.marble_claim.Reads as claim
use Rattle.marble_c.proofs.marble_release.Reads as release
use Rattle.marble_c.proofs.marble_prune.Reads as prune
use Rattle.marble_c.proofs.marble_plan.Reads as plan
use Rattle.marble_c.proofs.marble_rewrite.Reads as rewrite
use Rattle.marble_c.proofs.marble_nightly.Reads as nightly
use Rattle.marble_c.proofs.marble_counts.Reads as counts
use Rattle.marble_c.proofs.marble_unsynced.Reads as unsynced
use Rattle.marble_c.proofs.marble_sync.Reads as sync
use Rattle.marble_c.proofs.marble_check.Reads as check
use Rattle.marble_c.proofs.marble_salvage.Reads as salvage
use Rattle.marble_c.proofs.marble_load.Reads as load
use Rattle.marble_c.proofs.marble_store.Reads as store
use Rattle.marble_c.proofs.marble_compare_and_store.Reads as compare
use Rattle.marble_c.proofs.marble_store_if_greater.Reads as greater

-- a buffer lent to be read; lent to be changed
abbrev pub Lent : Type 0
Lent = Bor (List ℕ)

abbrev pub LentMut : Type 0
LentMut = MutBor (List ℕ)

-- a number lent to be changed
abbrev pub Place : Type 0
Place = MutBor ℕ

-- ---- calls on a store: a number is given, and a name with ' is what stands there after
module _ (settings : Settings) (r : ℕ) where
  pub reopen-contract : (κs : Lfts 4) (state claims : LentMut) (heap : Lent) (table state' claims' table' : LentMut)
      → reopen.Learnt κs (settings, (state, (claims, (heap, (table, tt))))) r (settings, (state', (claims', (heap, (table', tt)))))
      ≡ Reopens settings state.now claims.now heap.now table.now
      (record { number = r; values = []; state = state'.now; claims = claims'.now; heap = heap.now; table = table'.now })
  reopen-contract κs state claims heap table state' claims' table' = refl

  pub write-contract : (κs : Lfts 4) (state heap table : LentMut) (batch : Lent) (state' heap' table' : LentMut)
      → write.Learnt κs (settings, (state, (heap, (table, (batch, tt))))) r (settings, (state', (heap', (table', (batch, tt)))))
      ≡ Writes settings state.now heap.now table.now batch.now r state'.now heap'.now table'.now
  write-contract κs state heap table batch state' heap' table' = refl

  pub claim-contract : (κs : Lfts 4) (state : Lent) (claims : LentMut) (heap table : Lent) (slot : ℕ) (claims' : LentMut)
      → claim.Learnt κs (settings, (state, (claims, (heap, (table, (slot, tt)))))) r (settings, (state, (claims', (heap, (table, (slot, tt))))))
      ≡ ClaimsSlot settings state.now claims.now heap.now table.now slot
      (record { number = r; values = []; state = state.now; claims = claims'.now; heap = heap.now; table = table.now })
  claim-contract κs state claims heap table slot claims' = refl

  pub release-contract : (κs : Lfts 4) (state : Lent) (claims : LentMut) (heap table : Lent) (slot : ℕ) (claims' : LentMut)
      → release.Learnt κs (settings, (state, (claims, (heap, (table, (slot, tt)))))) r (settings, (state, (claims', (heap, (table, (slot, tt))))))
      ≡ Releases settings state.now claims.now heap.now table.now slot
      (record { number = r; values = []; state = state.now; claims = claims'.now; heap = heap.now; table = table.now })
  release-contract κs state claims heap table slot claims' = refl

  pub prune-contract : (κs : Lfts 4) (state : LentMut) (claims : Lent) (heap : LentMut) (table : Lent) (state' heap' : LentMut)
      → prune.Learnt κs (settings, (state, (claims, (heap, (table, tt))))) r (settings, (state', (claims, (heap', (table, tt)))))
      ≡ Prunes settings state.now claims.now heap.now table.now
      (record { number = r; values = []; state = state'.now; claims = claims.now; heap = heap'.now; table = table.now })
  prune-contract κs state claims heap table state' heap' = refl

  -- the calls that change nothing of the store
  module _ (state heap table : Lent) where
    pub read-contract : (κs : Lfts 6) (id : ℕ) (kind offset size kind' offset' size' : Place)
        → read.Learnt κs (settings, (state, (heap, (table, (id, (kind, (offset, (size, tt)))))))) r
        (settings, (state, (heap, (table, (id, (kind', (offset', (size', tt))))))))
        ≡ ReadsOut settings state.now heap.now table.now id r (kind'.now ∷ offset'.now ∷ size'.now ∷ [])
    read-contract κs id kind offset size kind' offset' size' = refl

    pub read-through-contract : (κs : Lfts 5) (batch : Lent) (id : ℕ) (piece piece' : LentMut)
        → read_through.Learnt κs (settings, (state, (heap, (table, (batch, (id, (piece, tt))))))) r
        (settings, (state, (heap, (table, (batch, (id, (piece', tt)))))))
        ≡ ReadsThroughOut settings state.now heap.now table.now batch.now id r piece'.now
    read-through-contract κs batch id piece piece' = refl

    pub counts-contract : (κs : Lfts 4) (four four' : LentMut)
        → counts.Learnt κs (settings, (state, (heap, (table, (four, tt))))) r (settings, (state, (heap, (table, (four', tt)))))
        ≡ CountsOut settings state.now heap.now table.now r four'.now
    counts-contract κs four four' = refl

  -- calls that are lent notes too
  module _ (claims : Lent) (places pieces places' pieces' : LentMut) where
    pub plan-contract : (κs : Lfts 7) (state heap table : Lent) (words words' : LentMut)
        → plan.Learnt κs (settings, (state, (claims, (heap, (table, (places, (pieces, (words, tt)))))))) r
        (settings, (state, (claims, (heap, (table, (places', (pieces', (words', tt))))))))
        ≡ PlansOut settings state.now claims.now heap.now table.now places.now pieces.now r words'.now places'.now pieces'.now
    plan-contract κs state heap table words words' = refl

    module _ (state heap table state' heap' table' : LentMut) where
      pub rewrite-contract : (κs : Lfts 7) (asked asked' : LentMut)
          → rewrite.Learnt κs (settings, (state, (claims, (heap, (table, (places, (pieces, (asked, tt)))))))) r
          (settings, (state', (claims, (heap', (table', (places', (pieces', (asked', tt))))))))
          ≡ RewritesOut settings state.now claims.now heap.now table.now places.now pieces.now asked.now asked'.now
          (record { number = r; values = get_or asked'.now 3 0 ∷ []; state = state'.now; claims = claims.now; heap = heap'.now; table = table'.now }) places'.now pieces'.now
      rewrite-contract κs asked asked' = refl

      pub nightly-contract : (κs : Lfts 7) (told told' : LentMut)
          → nightly.Learnt κs (settings, (state, (claims, (heap, (table, (places, (pieces, (told, tt)))))))) r
          (settings, (state', (claims, (heap', (table', (places', (pieces', (told', tt))))))))
          ≡ NightlyOut settings state.now claims.now heap.now table.now places.now pieces.now
          (record { number = r; values = told'.now; state = state'.now; claims = claims.now; heap = heap'.now; table = table'.now }) places'.now pieces'.now
      nightly-contract κs told told' = refl

-- ---- the calls on a lent list of records
module _ (r : ℕ) (place place' : Place) where
  pub unsynced-contract : (κs : Lfts 2) (records : Bor (List Record))
      → unsynced.Learnt κs (records, (place, tt)) r (records, (place', tt))
      ≡ CountsUnsynced records.now r (place'.now ∷ [])
  unsynced-contract κs records = refl

  pub sync-contract : (κs : Lfts 2) (records records' : MutBor (List Record))
      → sync.Learnt κs (records, (place, tt)) r (records', (place', tt))
      ≡ Syncs records.now r (place'.now ∷ []) records'.now
  sync-contract κs records records' = refl

-- ---- check
module _ (settings : Settings) (heap table : Lent) (r : ℕ) where
  pub check-contract : (κs : Lfts 4) (listing : LentMut) (faults : Place) (listing' : LentMut) (faults' : Place)
      → check.Learnt κs (settings, (heap, (table, (listing, (faults, tt))))) r (settings, (heap, (table, (listing', (faults', tt)))))
      ≡ ChecksOut settings heap.now table.now listing.now r (faults'.now ∷ []) listing'.now
  check-contract κs listing faults listing' faults' = refl

-- ---- salvage
module _ (settings : Settings) (table : Lent) (r : ℕ) where
  pub salvage-contract : (κs : Lfts 4) (heap report : LentMut) (count : Place) (heap' report' : LentMut) (count' : Place)
      → salvage.Learnt κs (settings, (heap, (table, (report, (count, tt))))) r (settings, (heap', (table, (report', (count', tt)))))
      ≡ SalvagesOut settings heap.now table.now report.now (rescue (given r (count'.now ∷ [])) report'.now heap'.now)
  salvage-contract κs heap report count heap' report' count' = refl

-- ---- the table's calls
module _ (id r : ℕ) where
  pub load-contract : (κs : Lfts 3) (table : Lent) (kind held kind' held' : Place)
      → load.Learnt κs (table, (id, (kind, (held, tt)))) r (table, (id, (kind', (held', tt))))
      ≡ Loads table.now id r (kind'.now ∷ held'.now ∷ [])
  load-contract κs table kind held kind' held' = refl

  module _ (location : ℕ) (table table' : LentMut) where
    pub store-contract : (κs : Lfts 1)
        → store.Learnt κs (table, (id, (location, tt))) r (table', (id, (location, tt)))
        ≡ Stores table.now id location (table_leaving (given r []) table'.now)
    store-contract κs = refl

    pub compare-contract : (κs : Lfts 2) (old : ℕ) (current current' : Place)
        → compare.Learnt κs (table, (id, (old, (location, (current, tt))))) r (table', (id, (old, (location, (current', tt)))))
        ≡ Compares table.now id old location (table_leaving (given r (current'.now ∷ [])) table'.now)
    compare-contract κs old current current' = refl

    pub greater-contract : (κs : Lfts 2) (held held' : Place)
        → greater.Learnt κs (table, (id, (location, (held, tt)))) r (table', (id, (location, (held', tt))))
        ≡ StoresGreater table.now id location (table_leaving (given r (held'.now ∷ [])) table'.now)
    greater-contract κs held held' = refl
