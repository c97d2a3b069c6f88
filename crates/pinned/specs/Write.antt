-- "Write decides 1 to 7 in order on the whole batch."; "An empty batch succeeds and changes nothing."
use Rattle.std.specs.Prelude.{◌≡◌, refl, ◌≤◌, ◌<◌, ◌∷◌, ◌+◌, ◌^◌, None, Some}
use Rattle.std.proofs.Common.{ap, ◌∙◌, zero-le, arith, leb-false, le-ltb}
use Rattle.std.proofs.lemmas.Bool.{lt-leb}
use Rattle.rules.specs.Base.{true, false, List, [], ℕ, suc, length, pick, any, keep, sum}
use Rattle.rules.specs.BaseLaws.{All}
use Rattle.rules.proofs.BaseLaws.{all_map, any_false, any-clear, or-clear}
use Rattle.theory.specs.Types.{Entry, Held, Limits, BatchBytes}
use Rattle.rules.specs.Refusal.{decide, NoneHolds}
use Rattle.rules.proofs.RefusalLaws.{none-append, decide-clear, decide-first, decide-next}
use Rattle.rules.specs.Ops.{Content, put, delete, Op, is_delete, size_of, objects_of, entries_of, file_bytes, settled}
use Rattle.disk_location.specs.Locations.{raw_of}
use Rattle.rules.specs.OpsLaws.{RisingOps, ops-rise}
use Rattle.rules.proofs.SettledLaws.{settled-rising}
use Rattle.rules.specs.Batch.{not_as_above, operations, ops_of, batch_from, batch_in, too_large, any_too_large}
use Rattle.rules.specs.Table.{lookup, insert, insert_all, unmapped}
use Rattle.rules.specs.TableLaws.{Rising}
use Rattle.rules.proofs.TableLaws.{rising-insert, lookup-insert-other, insert-new, insert-old}
use Rattle.rules.specs.Layout.{capacity_of}
use Rattle.rules.proofs.LayoutLaws.{used-length, form-rising}
use Rattle.rules.specs.Condition1.{refused1}
use Rattle.rules.proofs.Condition1Laws.{passed}
use Rattle.rules.specs.Install.{installed_all, room_tests, empty_of, position_tests}
use Rattle.rules.specs.Write.{new_files, too_many_ids, write_tests, written, write_call}
use Rattle.rules.specs.WriteLaws.{Accepted}
use Rattle.rules.proofs.WriteLaws.{write-accepted}
use Rattle.rules.specs.World.{World, mappings, accepted, unchanged}
use Rattle.pinned.specs.Answered.{answered}

-- ---- 6: more distinct ids than table entries
-- the operations on ids that the table does not have
abbrev pub new_in : List Entry → List Op → List Op
new_in table ops = keep (λ (o : Op). unmapped (lookup table o.id)) ops

-- a table that has the same mappings from f on grows by the new ones
grows : (f : ℕ) (table t : List Entry) (position : ℕ) (ops : List Op) → Rising 0 t → ((x : ℕ) → f ≤ x → lookup t x ≡ lookup table x) → RisingOps f ops
    → length (insert_all t (entries_of position ops)) ≡ length t + length (new_in table ops)
unfolding insert_all entries_of keep
grows f table t position [] r same up = omega arith
grows f table t position (o ∷ os) r same (ops-rise p up) =
    one (lookup table o.id) refl
    (grows (suc o.id) table (insert t n) _ os (rising-insert 0 t n (omega arith) r)
    (λ x l. lookup-insert-other t n x (λ e. omega arith) ∙ same x (omega arith)) up)
  where
    n : Entry
    n = record { id = o.id; location = raw_of position (is_delete o.content) }

    one : (h : Held) → lookup table o.id ≡ h
        → length (insert_all (insert t n) (entries_of (position + size_of o.content) os)) ≡ length (insert t n) + length (new_in table os)
        → length (insert_all (insert t n) (entries_of (position + size_of o.content) os)) ≡ length t + length (pick (unmapped h) (o ∷ new_in table os) (new_in table os))
    one None e ih = omega (arith, insert-new t n (same o.id p ∙ e))
    one (Some l) e ih = omega (arith, insert-old 0 t r n l (same o.id p ∙ e))

-- LAW: a table in form and a batch: the table's ids, and those of the batch that it has not
pub distinct-ids : (table : List Entry) (ops : List Op) → Rising 0 table → length (insert_all table (entries_of 0 (settled ops))) ≡ length table + length (new_in table (settled ops))
distinct-ids table ops r = grows 0 table table 0 (settled ops) r (λ x l. refl) (settled-rising ops)

-- ---- within the limits
-- "3 a put of max_object_size or more"
abbrev pub Small : ℕ → Content → Type 0
Small limit (put body) = length body < limit
Small limit delete = Unit {0}

-- the paper's 3 to 7 do not hold; 4, 5 and 7 only of a batch that makes a file
pub record Within (w : World) (ops : List Op) : Type 0 where
  pub small : All (λ (o : Op). Small w.settings.max_object_size o.content) ops
  pub slot : 0 < length (settled ops) → 64 + length (file_bytes (settled ops)) ≤ w.settings.slot_bytes
  pub free : 0 < length (settled ops) → 0 < empty_of w
  pub ids : length (mappings w) + length (new_in (mappings w) (settled ops)) ≤ capacity_of w.table
  pub positions : 0 < length (settled ops) → w.state.next_position + (length (objects_of (settled ops)) + 1) ≤ 2 ^ 62

small_is : (limit : ℕ) (c : Content) → too_large limit c ≡ false → Small limit c
small_is limit (put body) e = leb-false limit (length body) e
small_is limit delete e = tt

is-small : (limit : ℕ) (c : Content) → Small limit c → too_large limit c ≡ false
is-small limit (put body) l = lt-leb limit (length body) l
is-small limit delete l = refl

rooms : (size empty_ones : ℕ) (os : List Op) → (0 < length os → 64 + length (file_bytes os) ≤ size) → (0 < length os → 0 < empty_ones) → NoneHolds (room_tests size empty_ones (new_files os))
unfolding room_tests NoneHolds any
rooms size empty_ones [] h e = (refl, (le-ltb empty_ones 0 zero-le, tt))
rooms size empty_ones (o ∷ os) h e = (or-clear _ _ (le-ltb size (64 + length (file_bytes (o ∷ os))) (h (omega arith))) refl, (le-ltb empty_ones 1 (e (omega arith)), tt))

positions-left : (base : ℕ) (os : List Op) → (0 < length os → base + (length (objects_of os) + 1) ≤ 2 ^ 62) → NoneHolds (position_tests base (new_files os))
unfolding position_tests NoneHolds sum
positions-left base [] h = (refl, tt)
positions-left base (o ∷ os) h =
    let m = h (omega arith) in
    let n : base + (length (objects_of (o ∷ os)) + 1 + 0) ≤ 2 ^ 62 = omega arith in
    (le-ltb (2 ^ 62) (base + (length (objects_of (o ∷ os)) + 1 + 0)) n, tt)

rising-table : (w : World) → refused1 w ≡ false → Rising 0 (mappings w)
rising-table w f = form-rising w.table (passed w.settings (length w.heap) w.table w.state f).form

clears : (w : World) (bytes : List ℕ) (ops : List Op) → refused1 w ≡ false → batch_in bytes ≡ operations ops → Within w ops → NoneHolds (write_tests w bytes)
unfolding write_tests NoneHolds too_many_ids any_too_large
clears w bytes ops f e h =
    rw e (
      f,
      (
        refl,
        (
          any-clear (λ (o : Op). too_large w.settings.max_object_size o.content) ops
              (all_map (λ (o : Op). Small w.settings.max_object_size o.content) _ ops (λ o s. is-small w.settings.max_object_size o.content s) h.small),
          none-append (room_tests w.settings.slot_bytes (empty_of w) (new_files (settled ops))) _ (rooms w.settings.slot_bytes (empty_of w) (settled ops) h.slot h.free) (
            le-ltb (capacity_of w.table) (length (insert_all (mappings w) (entries_of 0 (settled ops)))) (omega (arith, distinct-ids (mappings w) ops (rising-table w f), h.ids)),
            positions-left w.state.next_position (settled ops) h.positions,
          ),
        ),
      ),
    )

write_done : (w : World) (bytes : List ℕ) → (write_call w bytes).answer ≡ accepted [] → Accepted w bytes
unfolding write_call
write_done w bytes e = write-accepted w bytes (answered (decide (write_tests w bytes)) w (record { answer = accepted []; world = written w (settled (ops_of (batch_in bytes))) }) e)

within_of : (w : World) (bytes : List ℕ) (ops : List Op) → refused1 w ≡ false → ops_of (batch_in bytes) ≡ ops → Accepted w bytes → Within w ops
unfolding any_too_large
within_of w bytes ops f e a = rw (← e) (record {
  small = all_map _ (λ (o : Op). Small w.settings.max_object_size o.content) (ops_of (batch_in bytes)) (λ o s. small_is w.settings.max_object_size o.content s)
      (any_false (λ (o : Op). too_large w.settings.max_object_size o.content) (ops_of (batch_in bytes)) a.small);
  slot = a.fits;
  free = a.slot;
  ids = omega (arith, distinct-ids (mappings w) (ops_of (batch_in bytes)) (rising-table w f), a.ids);
  positions = a.last;
})

-- LAW: a batch of these operations is accepted exactly if 3 to 7 do not hold, in the paper's own words
pub write-exactly : (w : World) (bytes : List ℕ) (ops : List Op) → refused1 w ≡ false → batch_in bytes ≡ operations ops
    → ((write_call w bytes).answer ≡ accepted [] → Within w ops) × (Within w ops → (write_call w bytes).answer ≡ accepted [])
unfolding write_call
write-exactly w bytes ops f e = (
  λ a. within_of w bytes ops f (ap ops_of e) (write_done w bytes a),
  λ h. rw (decide-clear (write_tests w bytes) (clears w bytes ops f e h)) refl,
)

-- LAW: 1, and 2, change nothing
pub write-limits : (w : World) (bytes : List ℕ) → refused1 w ≡ true → write_call w bytes ≡ unchanged w Limits
unfolding write_call write_tests
write-limits w bytes f = rw (decide-first (refused1 w) Limits _ f)

pub write-malformed : (w : World) (bytes : List ℕ) → refused1 w ≡ false → batch_in bytes ≡ not_as_above → write_call w bytes ≡ unchanged w BatchBytes
unfolding write_call write_tests
write-malformed w bytes f e = rw (decide-next (refused1 w) Limits _ f, e, decide-first true BatchBytes _ refl)

-- LAW: "An empty batch succeeds and changes nothing", whatever room there is
pub write-empty : (w : World) → refused1 w ≡ false → write_call w [] ≡ record { answer = accepted []; world = w }
unfolding write_call written installed_all settled batch_in batch_from keep
write-empty w f =
    let within : Within w [] = record {
      small = tt;
      slot = λ h. absurd (omega arith);
      free = λ h. absurd (omega arith);
      ids = omega (arith, used-length w.table);
      positions = λ h. absurd (omega arith);
    } in
    rw (decide-clear (write_tests w []) (clears w [] [] f refl within)) refl
