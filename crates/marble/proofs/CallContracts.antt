-- The contract of each public call is the relation that this crate's laws speak of: a contract that said anything else would not pass here.
-- `f.Learnt` is made by the kit from the `ensures` of f's source: what a caller learns of a call, by what it gave, the result, and its parameters at exit.
use Rattle.std.specs.Prelude.{◌≡◌, refl}
use contract.Lifetimes.{Lfts}
use Rattle.std.specs.Borrow.{Bor, MutBor}
use Rattle.rules.specs.Base.{List, ℕ}
use Rattle.rules.specs.declared.Settings.{Settings}
use Rattle.rules.specs.declared.State.{State}
use Rattle.rules.specs.declared.Claims.{Claims}
use Rattle.rules.specs.declared.Record.{Record}
use Rattle.rules.specs.Types.{Answer, ReadAnswer, CountsAnswer, LoadAnswer, GreaterAnswer, CompareAnswer}
use Rattle.as_numbers.specs.declared.answers.One.{One}
use Rattle.marks_in_place.proofs.unsynced.Reads as unsynced
use Rattle.marks_in_place.proofs.sync.Reads as sync
use Rattle.rules.specs.TableCalls.{load_call, store_call, compare_call, greater_call}
use Rattle.rules.specs.Read.{read_of}
use Rattle.rules.specs.World.{world, state_with, answer_given, load_given, compare_given, greater_given}
use Rattle.recovery.specs.declared.Reopened.{Reopened}
use Rattle.recovery.proofs.reopen.Reads as reopen
use Rattle.writepath.specs.declared.Written.{Written}
use Rattle.writepath.proofs.write.Reads as write
use Rattle.readpath.specs.Reads.{place_of}
use Rattle.readpath.proofs.read_answer.Reads as answer
use Rattle.readpath.proofs.read.Reads as reading
use Rattle.through.specs.Answers.{ThroughAnswer}
use Rattle.through.specs.Through.{through_of}
use Rattle.through.specs.Pieces.{through_place}
use Rattle.through.proofs.through_answer.Reads as through-answer
use Rattle.through.proofs.through.Reads as through
use Rattle.claims.specs.declared.ClaimAnswer.{ClaimAnswer}
use Rattle.claims.proofs.claim.Reads as claim
use Rattle.claims.proofs.release.Reads as release
use Rattle.claims.proofs.counts.Reads as counts
use Rattle.gc_course.specs.declared.Request.{Request}
use Rattle.gc_plan.specs.declared.Planned.{Planned}
use Rattle.gc_plan.proofs.plan.Reads as plan
use Rattle.gc.specs.declared.Rewritten.{Rewritten}
use Rattle.gc.proofs.rewrite.Reads as rewrite
use Rattle.gc_nightly.specs.declared.Maintained.{Maintained}
use Rattle.gc_nightly.proofs.nightly.Reads as nightly
use Rattle.prune.specs.declared.PruneAnswer.{PruneAnswer}
use Rattle.prune.proofs.prune.Reads as prune
use Rattle.checker.specs.Answers.{CheckAnswer}
use Rattle.checker.proofs.check.Reads as check
use Rattle.salvage.specs.Answers.{SalvageAnswer, Salvages}
use Rattle.losses.specs.Salvage.{salvage_call}
use Rattle.salvage.proofs.salvage.Reads as salvage
use Rattle.location_table.specs.Tables.{leaving as table_leaving}
use Rattle.table_calls.proofs.load.Reads as load
use Rattle.table_calls.proofs.store.Reads as store
use Rattle.table_calls.proofs.compare_and_store.Reads as compare
use Rattle.table_calls.proofs.store_if_greater.Reads as greater
use Rattle.marble.specs.Results.{Notes, wrote, planned, rewrote, maintained, pruned, claimed, released, reopened, answered, read, answered_through, read_through, counted, unsynced_counted, synced, checked, Admitted}
use Rattle.marble.specs.CallContracts.{Lent, LentMut}

-- ---- the calls on a store: settings, state, claims and buffers before; result and buffers after
module _ (settings : Settings) (state : State) where
  pub write-contract : (κs : Lfts 3) (heap table : LentMut) (batch : Lent) (r : Written) (heap' table' : LentMut)
      → write.Learnt κs (settings, (state, (heap, (table, (batch, tt))))) r (settings, (state, (heap', (table', (batch, tt)))))
      ≡ ((c : Claims) → Admitted (world settings state c heap.now table.now) (wrote batch.now r heap'.now table'.now))
  write-contract κs heap table batch r heap' table' = refl

  -- those that change no buffer
  module _ (heap table : Lent) where
    pub read-answer-contract : (κs : Lfts 2) (id : ℕ) (r : ReadAnswer)
        → answer.Learnt κs (settings, (state, (heap, (table, (id, tt))))) r (settings, (state, (heap, (table, (id, tt)))))
        ≡ ((c : Claims) → Admitted (world settings state c heap.now table.now) (answered id r))
    read-answer-contract κs id r = refl

    pub read-contract : (κs : Lfts 2) (id : ℕ) (part : Lent)
        → reading.Learnt κs (settings, (state, (heap, (table, (id, tt))))) part (settings, (state, (heap, (table, (id, tt)))))
        ≡ (((c : Claims) → Admitted (world settings state c heap.now table.now) (read id part.now))
        × ((c : Claims) → part.ref_ptr ≡ place_of (read_of (world settings state c heap.now table.now) id) heap.ref_ptr))
    read-contract κs id part = refl

    pub through-answer-contract : (κs : Lfts 3) (batch : Lent) (id : ℕ) (r : ThroughAnswer)
        → through-answer.Learnt κs (settings, (state, (heap, (table, (batch, (id, tt)))))) r (settings, (state, (heap, (table, (batch, (id, tt))))))
        ≡ ((c : Claims) → Admitted (world settings state c heap.now table.now) (answered_through batch.now id r))
    through-answer-contract κs batch id r = refl

    pub through-contract : (κs : Lfts 2) (batch : Lent) (id : ℕ) (part : Lent)
        → through.Learnt κs (settings, (state, (heap, (table, (batch, (id, tt)))))) part (settings, (state, (heap, (table, (batch, (id, tt))))))
        ≡ (((c : Claims) → Admitted (world settings state c heap.now table.now) (read_through batch.now id part.now))
        × ((c : Claims) → part.ref_ptr ≡ through_place (through_of (world settings state c heap.now table.now) batch.now id) batch.ref_ptr heap.ref_ptr))
    through-contract κs batch id part = refl

    pub counts-contract : (κs : Lfts 2) (r : CountsAnswer)
        → counts.Learnt κs (settings, (state, (heap, (table, tt)))) r (settings, (state, (heap, (table, tt))))
        ≡ ((c : Claims) → Admitted (world settings state c heap.now table.now) (counted r))
    counts-contract κs r = refl

  module _ (claims : Claims) (κs : Lfts 2) where
    pub reopen-contract : (heap : Lent) (table : LentMut) (r : Reopened) (table' : LentMut)
        → reopen.Learnt κs (settings, (state, (claims, (heap, (table, tt))))) r (settings, (state, (claims, (heap, (table', tt)))))
        ≡ Admitted (world settings state claims heap.now table.now) (reopened r table'.now)
    reopen-contract heap table r table' = refl

    pub prune-contract : (heap : LentMut) (table : Lent) (r : PruneAnswer) (heap' : LentMut)
        → prune.Learnt κs (settings, (state, (claims, (heap, (table, tt))))) r (settings, (state, (claims, (heap', (table, tt)))))
        ≡ Admitted (world settings state claims heap.now table.now) (pruned r heap'.now)
    prune-contract heap table r heap' = refl

    pub claim-contract : (heap table : Lent) (slot : ℕ) (r : ClaimAnswer)
        → claim.Learnt κs (settings, (state, (claims, (heap, (table, (slot, tt)))))) r (settings, (state, (claims, (heap, (table, (slot, tt))))))
        ≡ Admitted (world settings state claims heap.now table.now) (claimed slot r)
    claim-contract heap table slot r = refl

    pub release-contract : (heap table : Lent) (slot : ℕ) (r : ClaimAnswer)
        → release.Learnt κs (settings, (state, (claims, (heap, (table, (slot, tt)))))) r (settings, (state, (claims, (heap, (table, (slot, tt))))))
        ≡ Admitted (world settings state claims heap.now table.now) (released slot r)
    release-contract heap table slot r = refl

  -- with notes lent
  module _ (claims : Claims) (κs : Lfts 4) (places pieces places' pieces' : LentMut) where
    -- before and after
    abbrev before : Notes
    before = record { places = places.now; pieces = pieces.now }

    abbrev after : Notes
    after = record { places = places'.now; pieces = pieces'.now }

    pub plan-contract : (heap table : Lent) (r : Planned)
        → plan.Learnt κs (settings, (state, (claims, (heap, (table, (places, (pieces, tt))))))) r (settings, (state, (claims, (heap, (table, (places', (pieces', tt)))))))
        ≡ Admitted (world settings state claims heap.now table.now) (planned before r after)
    plan-contract heap table r = refl

    module _ (heap table heap' table' : LentMut) where
      pub rewrite-contract : (asked : Request) (r : Rewritten)
          → rewrite.Learnt κs (settings, (state, (claims, (heap, (table, (places, (pieces, (asked, tt)))))))) r (settings, (state, (claims, (heap', (table', (places', (pieces', (asked, tt))))))))
          ≡ Admitted (world settings state claims heap.now table.now) (rewrote before asked r heap'.now table'.now after)
      rewrite-contract asked r = refl

      pub nightly-contract : (r : Maintained)
          → nightly.Learnt κs (settings, (state, (claims, (heap, (table, (places, (pieces, tt))))))) r (settings, (state, (claims, (heap', (table', (places', (pieces', tt)))))))
          ≡ Admitted (world settings state claims heap.now table.now) (maintained before r heap'.now table'.now after)
      nightly-contract r = refl

-- ---- the calls on a lent list of records, of any host whose state has that list as its records
module _ (settings : Settings) (state : State) (next : ℕ) (claims : Claims) (heap table : List ℕ) (κs : Lfts 1) (r : One) where
  pub unsynced-contract : (list : Bor (List Record)) → unsynced.Learnt κs (list, tt) r (list, tt)
      ≡ Admitted (world settings (state_with state list.now next) claims heap table) (unsynced_counted r)
  unsynced-contract list = refl

  pub sync-contract : (list list' : MutBor (List Record)) → sync.Learnt κs (list, tt) r (list', tt)
      ≡ Admitted (world settings (state_with state list.now next) claims heap table) (synced r list'.now)
  sync-contract list list' = refl

-- ---- check: settings, heap and table, and the listing before and after; whatever state and claims the host has
module _ (settings : Settings) (heap table : Lent) where
  pub check-contract : (κs : Lfts 3) (r : CheckAnswer) (listing listing' : LentMut) (state : State) (claims : Claims)
      → check.Learnt κs (settings, (heap, (table, (listing, tt)))) r (settings, (heap, (table, (listing', tt))))
      ≡ Admitted (world settings state claims heap.now table.now) (checked listing.now r listing'.now)
  check-contract κs r listing listing' state claims = refl

-- ---- salvage: settings, heap and table, and the report; heap and report after
module _ (settings : Settings) (table : Lent) where
  pub salvage-contract : (κs : Lfts 3) (r : SalvageAnswer) (heap report heap' report' : LentMut)
      → salvage.Learnt κs (settings, (heap, (table, (report, tt)))) r (settings, (heap', (table, (report', tt))))
      ≡ Salvages (salvage_call settings heap.now table.now report.now) r report'.now heap'.now
  salvage-contract κs r heap report heap' report' = refl

-- ---- the table's calls: the buffer before and after
module _ (κs : Lfts 1) (id : ℕ) where
  pub load-contract : (table : Lent) (r : LoadAnswer)
      → load.Learnt κs (table, (id, tt)) r (table, (id, tt))
      ≡ (table_leaving (load_given r) table.now ≡ load_call table.now id)
  load-contract table r = refl

  module _ (location : ℕ) (table table' : LentMut) where
    pub store-contract : (r : Answer)
        → store.Learnt κs (table, (id, (location, tt))) r (table', (id, (location, tt)))
        ≡ (table_leaving (answer_given r) table'.now ≡ store_call table.now id location)
    store-contract r = refl

    pub compare-contract : (old : ℕ) (r : CompareAnswer)
        → compare.Learnt κs (table, (id, (old, (location, tt)))) r (table', (id, (old, (location, tt))))
        ≡ (table_leaving (compare_given r) table'.now ≡ compare_call table.now id old location)
    compare-contract old r = refl

    pub greater-contract : (r : GreaterAnswer)
        → greater.Learnt κs (table, (id, (location, tt))) r (table', (id, (location, tt)))
        ≡ (table_leaving (greater_given r) table'.now ≡ greater_call table.now id location)
    greater-contract r = refl
