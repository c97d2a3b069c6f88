use Rattle.file_map.proofs.RecordTurns.{mapped-length}
use mathlib.Core.Path.{◌≡◌, sym, ap, ◌∙◌}
use mathlib.Core.Logic.{inl, inr}
use mathlib.Core.List.{List, map}
use Prim.Native.Nat.{ℕ, ◌+◌, ◌*◌, ◌≤◌, ◌<◌}
use native.Mathlib.Omega.{arith}
use borrow.Author.Rules.{rules}
use lib.ListN.{length, get_or, take, set, replicate, length-map}
use lib.Seq.{length-take-le}
use Rattle.disk_location.specs.Locations.{masked_of, position_of}
use Rattle.std.specs.Prelude.{Some}
use Rattle.rules.specs.Types.{Slot}
use Rattle.rules.specs.declared.Label.{Label}
use Rattle.ordered_files.specs.Order.{in_order, slot_at}
use Rattle.rules.specs.Layout.{Table, laid_out, used_entries}
use Rattle.rules.proofs.LayoutLaws.{used-length}
use Rattle.location_table.specs.LayoutLaws.{used-location}
use Rattle.ordered_files.specs.OrderLaws.{order-formed, order-finds}
use Rattle.rebuild.specs.Records.{masked_lsn}
use Rattle.rebuild.specs.Counting.{Apart, index_of, found-file, count-found, count-nowhere, live-start, live_end, counts-most}
use Rattle.rebuild.proofs.counts.counted_in.Goals as goal
use Rattle.rebuild.proofs.counts.counted_in.Goals.{in-Some+then-in_range, in-Some+else-in_range, in_default}

pub loop-i-init : goal.loop-i-init
loop-i-init c =
    let a = c.args in
    let len : length a.slots.labels ≡ 256 = search (mapped-length, rules) in
    (c.used-i-end.ensures, ap (λ (n : ℕ). replicate n 0) (sym len) ∙ live-start (used_entries a.table.now) a.slots.labels, len)

pub location_at-location-requires : goal.location_at-location-requires
location_at-location-requires c =
    omega (arith, c.loop-i.invariant, c.loop-i-test.true, used-length c.args.table.now)

pub overflow_mul-position : goal.overflow_mul-position
unfolding masked_of
overflow_mul-position c = omega (arith, c.masked_position-position.ensures)

pub file_at-requires : goal.file_at-requires
file_at-requires c =
    let ls = c.args.slots.labels in
    let len : length ls ≡ 256 = search (mapped-length, rules) in
    order-formed (map masked_lsn ls) (omega (arith, length-map ls masked_lsn)) c.args.order.now c.requires.2

-- the slot that is found is one of the 256
low : (ls : List Label) → length ls ≡ 256 → Apart ls → (order : Table) → order ≡ laid_out 256 (in_order (map masked_lsn ls))
    → (position k : ℕ) (found : Slot) → found ≡ slot_at (used_entries order) (2 * position) → found ≡ Some k → k < 256
low ls len apart order is position k found at some =
    omega (arith, len, (found-file ls apart position k (sym (at ∙ order-finds (map masked_lsn ls) (omega (arith, length-map ls masked_lsn)) order is (2 * position)) ∙ some)).0)

pub offset_bounds-slots-k : goal.offset_bounds-slots-k
offset_bounds-slots-k c =
    let len : length c.args.slots.labels ≡ 256 = c.loop-i.invariant.2 in
    let at = low c.args.slots.labels len c.requires.1 c.args.order.now c.requires.2 _ _ _ c.file_at.ensures c.in-Some.is in
    omega (arith, at)

pub bounds-slots-k : goal.bounds-slots-k
bounds-slots-k c = low c.args.slots.labels c.loop-i.invariant.2 c.requires.1 c.args.order.now c.requires.2 _ _ _ c.file_at.ensures c.in-Some.is

pub offset_bounds-lives-k : goal.offset_bounds-lives-k
offset_bounds-lives-k c =
    let at = low c.args.slots.labels c.loop-i.invariant.2 c.requires.1 c.args.order.now c.requires.2 _ _ _ c.file_at.ensures c.in-Some.is in
    omega (arith, at)

pub bounds-lives-k : goal.bounds-lives-k
bounds-lives-k c = low c.args.slots.labels c.loop-i.invariant.2 c.requires.1 c.args.order.now c.requires.2 _ _ _ c.file_at.ensures c.in-Some.is

pub bounds-lives-k-then-in_range : goal.bounds-lives-k-then-in_range
bounds-lives-k-then-in_range c = low c.args.slots.labels c.loop-i.invariant.2 c.requires.1 c.args.order.now c.requires.2 _ _ _ c.file_at.ensures c.in-Some.is

pub overflow_add-lives : goal.overflow_add-lives
overflow_add-lives c =
    let l = c.loop-i in
    let a = c.args in
    let es = used_entries a.table.now in
    let k = c.in-Some.slot in
    let few : l.i ≤ length es = omega (arith, l.invariant) in
    omega (arith, ap (λ (ns : List ℕ). get_or ns k 0) l.invariant.1, counts-most (take l.i es) a.slots.labels k, length-take-le l.i es few, c.loop-i-test.true)

pub loop-i-preserved : goal.loop-i-preserved
loop-i-preserved c =
    let l = c.loop-i in
    let a = c.args in
    let t = a.table.now in
    let es = used_entries t in
    let ls = a.slots.labels in
    let len = l.invariant.2 in
    let inside : l.i < length es = omega (arith, l.invariant, c.loop-i-test.true) in
    let position = c.masked_position-position.result in
    let at = c.masked_position-position.ensures ∙ ap (λ (n : ℕ). masked_of (position_of n)) (c.location_at-location.ensures ∙ used-location t l.i inside) in
    let found = c.file_at.ensures ∙ order-finds (map masked_lsn ls) (omega (arith, length-map ls masked_lsn)) a.order.now c.requires.2 (2 * position) in (
      l.invariant.0,
      elim c.match-file_at.branch [
        | in-Some+then-in_range w ↦
            let slot = w.in-Some.slot in
            w.lives-is
            ∙ ap (λ (ns : List ℕ). set ns slot (get_or ns slot 0 + 1)) l.invariant.1
            ∙ count-found ls c.requires.1 es l.i inside position at _ found slot (sym (ap index_of w.in-Some.is))
            (low ls len c.requires.1 a.order.now c.requires.2 position slot _ c.file_at.ensures w.in-Some.is) (sym w.in_range.ensures ∙ w.if-in_range.true)
        | in-Some+else-in_range w ↦
            w.lives-is ∙ l.invariant.1
            ∙ count-nowhere ls c.requires.1 es l.i inside position at _ found w.in-Some.slot (sym (ap index_of w.in-Some.is)) (omega (arith, len)) (inr (sym w.in_range.ensures ∙ w.if-in_range.false))
        | in_default w ↦
            w.lives-is ∙ l.invariant.1
            ∙ count-nowhere ls c.requires.1 es l.i inside position at _ found 256 (sym (ap index_of w.in_default.is)) (omega (arith, len)) (inl (omega arith))
      ],
      len,
    )

pub returns : goal.returns
returns c =
    let l = c.loop-i in
    let a = c.args in
    l.invariant.1 ∙ live_end (used_entries a.table.now) l.i a.slots.labels (omega (arith, l.invariant, c.loop-i-test.false))
