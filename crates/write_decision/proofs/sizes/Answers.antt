use mathlib.Core.Path.{◌≡◌, ap, ◌∙◌, sym}
use mathlib.Core.List.{List}
use Prim.Native.Nat.{◌+◌, ◌-◌, ◌*◌, ◌<◌, ◌≤◌}
use native.Mathlib.Omega.{arith}
use borrow.Author.Tests.{ltb-true, ltb-false}
use lib.ListN.{length}
use Rattle.rules.specs.Layout.{used_entries}
use Rattle.rules.specs.Table.{lookup}
use Rattle.rules.specs.Ops.{Op, settled}
use Rattle.location_table.specs.LayoutLaws.{used-rising}
use Rattle.batch.specs.Reading.{ops_in}
use Rattle.batch.specs.Walk.{left}
use Rattle.batch.specs.WalkLaws.{stepped, stepped-end, walk-next, walk_end}
use Rattle.batch.specs.SizeLaws.{total-next, total-end}
use Rattle.table_merge.specs.NewIds.{new_at, is_new, new_ids, new-at, new-next, new-end, new-one}
use Rattle.write_decision.specs.NewIds.{ids_of}
use Rattle.write_decision.specs.SizeLaws.{sizes-fit, sizes-large}
use Rattle.write_decision.proofs.sizes.Goals as goal

pub returns-then-too_large-clause-sizes : goal.returns-then-too_large-clause-sizes
returns-then-too_large-clause-sizes c =
    let a = c.args in
    let over : a.slot_bytes < 64 + (0 + (12 + 16 * 0)) = ltb-true _ _ (sym c.too_large.ensures ∙ c.if-too_large.true) in
    sizes-large _ _ (settled (ops_in a.batch.now)) (omega arith)

pub returns : goal.returns
returns c =
    let a = c.args in
    let s = a.batch.now in
    let t = used_entries a.table.now in
    let none = stepped-end s _ c.next.ensures.steps c.in_default.is in
    let empty = ap length none in
    let bare = total-end none in
    let ids = ap (λ (os : List Op). new_ids t (ids_of os)) none in
    record {
      sizes = sizes-fit _ t (settled (ops_in s)) (omega arith) (omega arith) (omega (arith, new-end t)) (omega arith);
      again = walk_end c.loop-o.invariant.0 c.next.ensures.keeps c.in_default.is;
    }

pub returns-then-too_large-2 : goal.returns-then-too_large-2
returns-then-too_large-2 c =
    let a = c.args in
    let e = stepped _ c.next.ensures.steps c.next.ensures.within c.in-Some.is in
    let one = ap length e.next in
    let more = total-next e in
    let size = c.size_of-size.ensures in
    let over : a.slot_bytes - c.loop-o.total < 64 + (c.size_of-size.result + (12 + 16 * (c.loop-o.count + 1))) =
    ltb-true _ _ (sym c.too_large-in-Some.ensures ∙ c.if-too_large-2.true) in
    record {
      sizes = sizes-large _ _ (settled (ops_in a.batch.now)) (omega arith);
      again = (walk-next c.loop-o.invariant.0 c.next.ensures.keeps c.in-Some.is).begins;
    }

pub loop-o-preserved : goal.loop-o-preserved
loop-o-preserved c =
    let a = c.args in
    let e = stepped _ c.next.ensures.steps c.next.ensures.within c.in-Some.is in
    let one = ap length e.next in
    let more = total-next e in
    let size = c.size_of-size.ensures in
    let room : 64 + (c.size_of-size.result + (12 + 16 * (c.loop-o.count + 1))) ≤ a.slot_bytes - c.loop-o.total =
    ltb-false _ _ (sym c.too_large-in-Some.ensures ∙ c.if-too_large-2.false) in
    let t = used_entries a.table.now in
    let id = c.in-Some.o.id in
    let ids = ap (λ (os : List Op). new_ids t (ids_of os)) e.next in
    let next = new-next t id (ids_of (left a.batch.now c.next.new.order c.in-Some.after)) in
    let new : c.new_at-new.result ≡ is_new t id = c.new_at-new.ensures ∙ ap new_at c.find_near-place.ensures ∙ new-at t (used-rising a.table.now c.requires.0) id in
    let most = new-one (lookup t id) in (
      walk-next c.loop-o.invariant.0 c.next.ensures.keeps c.in-Some.is,
      omega arith,
      omega arith,
      omega arith,
      omega arith,
      omega arith,
      omega arith,
    )
