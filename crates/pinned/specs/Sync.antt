-- Request P6, "Remember what has reached the flash", from outside.
use Rattle.std.specs.Prelude.{◌≡◌, refl, ◌≤◌, ◌<◌, ◌∷◌, ◌+◌}
use Rattle.std.proofs.Common.{sym, ap, ◌∙◌, true≢false, zero-add, arith, eqb-true, eq-eqb, le-ltb, lt-ltb}
use Rattle.std.proofs.lemmas.List.{length-map}
use Rattle.std.proofs.lemmas.Bool.{not-true}
use Rattle.rules.specs.Base.{Bool, true, false, not, List, [], ℕ, length, eqb, any, zeros, keep, sum, pick}
use Rattle.disk_location.specs.Locations.{masked_of}
use Rattle.rules.proofs.BaseLaws.{and-true}
use Rattle.theory.specs.Types.{Record, Settings, Limits}
use Rattle.rules.specs.Refusal.{decide}
use Rattle.rules.specs.FileMap.{recorded, empty_label, is_empty, record_at}
use Rattle.rules.specs.Layout.{Table}
use Rattle.rules.specs.Condition1.{bad_record}
use Rattle.rules.proofs.Condition1Laws.{good-record}
use Rattle.rules.specs.Sync.{is_unsynced, unsynced_in, too_long, unsynced_call, sync_call}
use Rattle.rules.specs.World.{accepted, refused}
use Rattle.theory.proofs.Marks.{by-mark, marked-at, marked-label, marked-live, any-counted}
use Rattle.history_theory.proofs.Syncing.{sync-taken}
-- what each call leaves of the marks
pub use Rattle.history_theory.specs.MarksLeft.{Carried, Carries}
pub use Rattle.history_theory.proofs.MarksLeft.{write-carries, rewrite-carries, nightly-carries, prune-carries, reopen-marks, sync-marks, write-marks}

-- LAW: counted is exactly a file's record whose mark is clear; "an empty record has it clear and is never counted"
pub unsynced-exactly : (r : Record) → is_unsynced r ≡ true → (is_empty r ≡ false) × (r.synced ≡ 0)
unfolding is_unsynced
unsynced-exactly r e = let a = and-true (not (is_empty r)) (eqb r.synced 0) e in (not-true (is_empty r) a.0, eqb-true r.synced 0 a.1)

-- and back
pub exactly-unsynced : (r : Record) → is_empty r ≡ false → r.synced ≡ 0 → is_unsynced r ≡ true
unfolding is_unsynced
exactly-unsynced r some clear = rw (some, eq-eqb r.synced 0 clear)

-- LAW: "how many": as many as there are such records in the list
pub count-is : (rs : List Record) → unsynced_in rs ≡ length (keep is_unsynced rs)
unfolding unsynced_in sum keep
count-is [] = refl
count-is (r ∷ rs) = go (is_unsynced r) (count-is rs)
  where
    go : (t : Bool) → unsynced_in rs ≡ length (keep is_unsynced rs) → pick t 1 0 + unsynced_in rs ≡ length (pick t (r ∷ keep is_unsynced rs) (keep is_unsynced rs))
    go true h = omega (arith, h)
    go false h = rw zero-add h

-- LAW: the count is refused exactly for a list longer than 256, and else is how many there are
pub count-refused : (rs : List Record) → 256 < length rs → unsynced_call rs ≡ refused Limits
unfolding unsynced_call too_long decide
count-refused rs long = rw (lt-ltb 256 (length rs) long)

pub count-given : (rs : List Record) → length rs ≤ 256 → unsynced_call rs ≡ accepted (unsynced_in rs ∷ [])
unfolding unsynced_call too_long decide
count-given rs fits = rw (le-ltb 256 (length rs) fits)

-- what a sync leaves of a list of at most 256
pub record Marked (rs qs : List Record) : Type 0 where
  -- as many records, each with its label and live count
  pub length : length qs ≡ length rs
  pub label : (k : ℕ) → (record_at qs k).label ≡ (record_at rs k).label
  pub live : (k : ℕ) → (record_at qs k).live ≡ (record_at rs k).live
  -- a mark that was clear is set in a file's record, and any other is as it was
  pub set : (k : ℕ) → is_unsynced (record_at rs k) ≡ true → (record_at qs k).synced ≡ 1
  pub kept : (k : ℕ) → is_unsynced (record_at rs k) ≡ false → (record_at qs k).synced ≡ (record_at rs k).synced

-- LAW: "then has them marked"
pub sync-marked : (rs : List Record) → length rs ≤ 256 → Marked rs (sync_call rs).records
sync-marked rs fits =
    rw (sync-taken rs fits) (
    record {
      length = length-map rs _;
      label = λ k. ap (λ (r : Record). r.label) (marked-at rs k) ∙ marked-label (record_at rs k);
      live = λ k. ap (λ (r : Record). r.live) (marked-at rs k) ∙ marked-live (record_at rs k);
      set = λ k e.
          ap (λ (r : Record). r.synced) (marked-at rs k)
          ∙ by-mark (λ (q : Record). q.synced ≡ 1) (record_at rs k) (λ n. refl) (λ n. absurd (true≢false (sym e ∙ n)));
      kept = λ k e.
          ap (λ (r : Record). r.synced) (marked-at rs k)
          ∙ by-mark (λ (q : Record). q.synced ≡ (record_at rs k).synced) (record_at rs k) (λ n. absurd (true≢false (sym n ∙ e))) (λ n. refl);
    }
    )

-- LAW: "Sync gives whether any mark changed": 1 exactly where some was counted before, and 0 where none was
pub sync-tells : (rs : List Record) → length rs ≤ 256 → (sync_call rs).answer ≡ accepted (pick (eqb (unsynced_in rs) 0) 0 1 ∷ [])
sync-tells rs fits = rw (sync-taken rs fits, any-counted rs) (go (eqb (unsynced_in rs) 0))
  where
    go : (t : Bool) → accepted (pick (not t) 1 0 ∷ []) ≡ accepted (pick t 0 1 ∷ [])
    go true = refl
    go false = refl

-- LAW: "1 for a list longer than 256", and the list is as it was
pub sync-too-long : (rs : List Record) → 256 < length rs → sync_call rs ≡ record { answer = refused Limits; records = rs }
unfolding sync_call too_long decide
sync-too-long rs long = rw (lt-ltb 256 (length rs) long)

-- LAW: a mark that is neither 0 nor 1 is refused with 1
pub other-mark : (s : Settings) (heap_len : ℕ) (b : Table) (slot : ℕ) (r : Record) → is_empty r ≡ false → 1 < r.synced → bad_record s heap_len b slot r ≡ true
other-mark s heap_len b slot r some over = go (bad_record s heap_len b slot r) refl
  where
    go : (t : Bool) → bad_record s heap_len b slot r ≡ t → t ≡ true
    go true e = refl
    go false e = let w = (good-record s heap_len b slot r some e).mark in absurd (omega arith)

not-blank : is_empty (recorded empty_label 0 1) ≡ false
unfolding is_empty zeros any
not-blank = refl

-- LAW: and so is a record with nothing but the mark, which is not empty
pub mark-alone : (s : Settings) (heap_len : ℕ) (b : Table) (slot : ℕ) → bad_record s heap_len b slot (recorded empty_label 0 1) ≡ true
unfolding masked_of
mark-alone s heap_len b slot = go (bad_record s heap_len b slot (recorded empty_label 0 1)) refl
  where
    go : (t : Bool) → bad_record s heap_len b slot (recorded empty_label 0 1) ≡ t → t ≡ true
    go true e = refl
    go false e = let w = (good-record s heap_len b slot (recorded empty_label 0 1) not-blank e).bounds.masked in absurd (omega arith)
