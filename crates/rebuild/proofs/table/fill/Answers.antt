use mathlib.Core.Path.{sym, ap, refl, ◌∙◌}
use mathlib.Core.List.{◌++◌}
use Prim.Native.Nat.{◌+◌}
use borrow.Author.Rules.{rules}
use lib.ListN.{take, drop}
use Rattle.rules.specs.Base.{each}
use Rattle.rules.specs.SlotFile.{View, view_in, views_in}
use Rattle.rules.proofs.SlotLaws.{slots_apart, views-length, views-at}
use Rattle.rules.specs.Reopen.{file_of, files_in}
use Rattle.rules.proofs.BaseLaws.{all_take}
use Rattle.reopen_tests.specs.Shown.{Sound, shown-at, sound-views}
use Rattle.rebuild.specs.Filled.{rows_of, filled_none, filled-formed}
use Rattle.rebuild.proofs.FillTurns.{rows_in, filled-as, chunk_in, chunk_out, slot-in, slot-out, slot-end, views-in-use}
use native.Mathlib.Omega.{arith}
use Rattle.rebuild.proofs.table.fill.Goals as goal

pub loop-k-init : goal.loop-k-init
unfolding each files_in
loop-k-init c =
    (refl, filled_none c.args.table.now c.requires.formed)

pub slot_at-requires : goal.slot_at-requires
slot_at-requires c =
    let a = c.args in
    omega (arith, c.requires.surveyed.within, slots_apart a.size c.loop-k.k a.n c.loop-k-test.true)

pub fill_slot-requires : goal.fill_slot-requires
fill_slot-requires c =
    let a = c.args in
    let l = c.loop-k in
    let views = views_in a.n a.size a.heap.now in
    let sound = all_take (Sound a.size) l.k views (sound-views a.n a.size a.heap.now a.slots.labels c.requires.surveyed) in record {
      formed = filled-formed a.table.now c.requires.formed (rows_in (take l.k views)) l.table (views-in-use a.size (take l.k views) sound) l.invariant.1;
      shown = rw c.slot_at.ensures (shown-at a.n a.size a.heap.now a.slots.labels c.requires.surveyed l.k c.loop-k-test.true);
    }

pub returns-then-not-fill_slot : goal.returns-then-not-fill_slot
returns-then-not-fill_slot c =
    let a = c.args in
    let l = c.loop-k in
    let low = c.loop-k-test.true in
    let views = views_in a.n a.size a.heap.now in
    let many = views-length a.n a.size a.heap.now in
    let sound = all_take (Sound a.size) l.k views (sound-views a.n a.size a.heap.now a.slots.labels c.requires.surveyed) in
    let view = ap view_in c.slot_at.ensures ∙ sym (views-at a.n a.size a.heap.now l.k low) in
    let rows = slot-out views l.k (omega arith) ∙ ap (λ (v : View). (rows_in (take l.k views) ++ each rows_of (file_of v)) ++ rows_in (drop (l.k + 1) views)) (sym view) in
    chunk_out a.table.now c.requires.formed (rows_in (take l.k views)) _ (views-in-use a.size (take l.k views) sound) _ l.invariant.1 _ _ c.fill_slot.ensures (search rules) (rows_in views) _ rows

pub loop-k-preserved : goal.loop-k-preserved
loop-k-preserved c =
    let a = c.args in
    let l = c.loop-k in
    let low = c.loop-k-test.true in
    let views = views_in a.n a.size a.heap.now in
    let many = views-length a.n a.size a.heap.now in
    let sound = all_take (Sound a.size) l.k views (sound-views a.n a.size a.heap.now a.slots.labels c.requires.surveyed) in
    let view = ap view_in c.slot_at.ensures ∙ sym (views-at a.n a.size a.heap.now l.k low) in
    let rows = slot-in views l.k (omega arith) ∙ ap (λ (v : View). rows_in (take l.k views) ++ each rows_of (file_of v)) (sym view) in (
      c.fill_slot.auto.table ∙ l.invariant.0,
      chunk_in a.table.now c.requires.formed (rows_in (take l.k views)) _ (views-in-use a.size (take l.k views) sound) _ l.invariant.1 _ _ c.fill_slot.ensures (search rules) (rows_in (take (l.k + 1) views)) rows,
    )

pub returns : goal.returns
returns c =
    let a = c.args in
    let l = c.loop-k in
    let views = views_in a.n a.size a.heap.now in
    filled-as (slot-end views l.k (omega (arith, l.invariant, views-length a.n a.size a.heap.now, c.loop-k-test.false))) l.invariant.1
