-- What a call knows once 1 does not refuse it.
use Rattle.std.specs.Prelude.{◌≡◌, refl, ◌⊎◌, ◌∷◌, ◌+◌}
use Rattle.std.proofs.Common.{sym, ◌∙◌, true≢false, ⊎_elim, arith, zero-add, eqb-true, ltb-false, leb-false, eq-eqb, ne_eqb, le-ltb}
use Rattle.std.proofs.lemmas.Bool.{eqb-false, lt-leb, not-false}
use Rattle.rules.specs.Base.{true, false, List, [], ℕ, zero, suc}
use Rattle.rules.specs.Types.{Settings, Record, State}
use Rattle.rules.proofs.BaseLaws.{or-false, or-clear, and-true}
use Rattle.rules.specs.Settings.{slots_in}
use Rattle.rules.proofs.SettingsLaws.{in-ranges, ranges_in, heap-in-range, range-heap-in, same-settings, settings-same}
use Rattle.rules.proofs.LabelLaws.{in_bounds, bounds-in}
use Rattle.rules.specs.Layout.{Table, capacity_of}
use Rattle.rules.proofs.LayoutLaws.{lengths-in-range, range-lengths-in}
use Rattle.rules.specs.FileMap.{is_empty, record_at}
use Rattle.rules.proofs.FileMapLaws.{is-empty, empty-or-not}
use Rattle.rules.specs.Condition1.{out_of_range, not_the_states, bad_record, bad_from, condition_one}
use Rattle.rules.specs.Condition1Laws.{InLimits, GoodRecord, Passed}

-- not out of range
pub in-limits : (s : Settings) (heap_len : ℕ) (b : Table) → out_of_range s heap_len b ≡ false → InLimits s heap_len b
unfolding out_of_range
in-limits s heap_len b e =
    let w3 = and-true _ _ (not-false _ e) in
    let w2 = and-true _ _ w3.0 in
    record { settings = in-ranges s w2.0; heap = heap-in-range s heap_len w2.1; table = lengths-in-range b w3.1 }

-- and back
pub limits-in : (s : Settings) (heap_len : ℕ) (b : Table) → InLimits s heap_len b → out_of_range s heap_len b ≡ false
unfolding out_of_range
limits-in s heap_len b w = rw (ranges_in s w.settings, range-heap-in s heap_len w.heap, range-lengths-in b w.table)

-- a record that is not bad, and not empty, is good
pub good-record : (s : Settings) (heap_len : ℕ) (b : Table) (slot : ℕ) (r : Record) → is_empty r ≡ false → bad_record s heap_len b slot r ≡ false → GoodRecord s heap_len b slot r
unfolding bad_record
good-record s heap_len b slot r some e =
    let f = rw some at e in
    let w5 = or-false _ _ f in
    let w4 = or-false _ _ w5.0 in
    let w3 = or-false _ _ w4.0 in
    let w2 = or-false _ _ w3.0 in
    record { place = leb-false _ _ w2.0; bounds = in_bounds s.slot_bytes r.label w2.1; present = ltb-false _ _ w3.1; live = ltb-false _ _ w4.1; mark = ltb-false _ _ w5.1 }

-- and back
pub record-good : (s : Settings) (heap_len : ℕ) (b : Table) (slot : ℕ) (r : Record) → (is_empty r ≡ false → GoodRecord s heap_len b slot r) → bad_record s heap_len b slot r ≡ false
unfolding bad_record
record-good s heap_len b slot r good = ⊎_elim
    (λ e. rw e)
    (λ e.
    let w = good e in
    rw (e, lt-leb (slots_in s heap_len) slot w.place, bounds-in s.slot_bytes r.label w.bounds, le-ltb r.label.file_size r.label.present_objects w.present, le-ltb (capacity_of b) r.live w.live, le-ltb 1 r.synced w.mark))
    (empty-or-not r)

-- every record passes
good-from : (s : Settings) (heap_len : ℕ) (b : Table) (i : ℕ) (rs : List Record) → bad_from s heap_len b i rs ≡ false → (k : ℕ) → is_empty (record_at rs k) ≡ false → GoodRecord s heap_len b (i + k) (record_at rs k)
unfolding bad_from
good-from s heap_len b i [] e k some = absurd (true≢false (sym is-empty ∙ some))
good-from s heap_len b i (r ∷ rs) e zero some =
    let here : i + 0 ≡ i = omega arith in
    rw here (good-record s heap_len b i r some (or-false _ _ e).0)
good-from s heap_len b i (r ∷ rs) e (suc k) some =
    let there : i + suc k ≡ suc i + k = omega arith in
    rw there (good-from s heap_len b (suc i) rs (or-false (bad_record s heap_len b i r) _ e).1 k some)

from-good : (s : Settings) (heap_len : ℕ) (b : Table) (i : ℕ) (rs : List Record) → ((k : ℕ) → is_empty (record_at rs k) ≡ false → GoodRecord s heap_len b (i + k) (record_at rs k)) → bad_from s heap_len b i rs ≡ false
unfolding bad_from
from-good s heap_len b i [] good = refl
from-good s heap_len b i (r ∷ rs) good =
    let here : i + 0 ≡ i = omega arith in
    or-clear _ _ (record-good s heap_len b i r (λ some. rw here at (good 0 some)))
    (from-good s heap_len b (suc i) rs (λ k some. let there : i + suc k ≡ suc i + k = omega arith in rw there at (good (suc k) some)))

-- no record of the file map is bad
pub good-records : (s : Settings) (heap_len : ℕ) (b : Table) (rs : List Record) → bad_from s heap_len b 0 rs ≡ false → (k : ℕ) → is_empty (record_at rs k) ≡ false → GoodRecord s heap_len b k (record_at rs k)
good-records s heap_len b rs e k some = rw zero-add at (good-from s heap_len b 0 rs e k some)

-- and back
pub records-good : (s : Settings) (heap_len : ℕ) (b : Table) (rs : List Record) → ((k : ℕ) → is_empty (record_at rs k) ≡ false → GoodRecord s heap_len b k (record_at rs k)) → bad_from s heap_len b 0 rs ≡ false
records-good s heap_len b rs good = from-good s heap_len b 0 rs (λ k some. rw zero-add (good k some))

-- so much is known where 1 does not hold
pub passed : (s : Settings) (heap_len : ℕ) (b : Table) (t : State) → condition_one s heap_len b t ≡ false → Passed s heap_len b t
unfolding condition_one not_the_states
passed s heap_len b t e =
    let w5 = or-false _ _ e in
    let w4 = or-false _ _ w5.0 in
    let w3 = or-false _ _ w4.0 in
    let w2 = or-false _ _ w3.0 in
    let v3 = and-true _ _ (not-false _ w2.1) in
    let v2 = and-true _ _ v3.0 in
    let some = eqb-false t.next_position 0 w4.1 in
    record {
      limits = in-limits s heap_len b w2.0;
      settings = same-settings s t.settings v2.0;
      heap_len = eqb-true _ _ v2.1;
      table-len = eqb-true _ _ v3.1;
      form = not-false _ w3.1;
      next = omega (arith, some);
      records = good-records s heap_len b t.files.records w5.1;
    }

-- and back
pub passes : (s : Settings) (heap_len : ℕ) (b : Table) (t : State) → Passed s heap_len b t → condition_one s heap_len b t ≡ false
unfolding condition_one not_the_states
passes s heap_len b t w =
    let some = w.next in
    rw (
      limits-in s heap_len b w.limits,
      ← w.settings,
      settings-same s,
      eq-eqb heap_len t.heap_len w.heap_len,
      eq-eqb (capacity_of b) t.table_len w.table-len,
      w.form,
      ne_eqb t.next_position 0 (λ z. omega arith),
      records-good s heap_len b t.files.records w.records,
    )
