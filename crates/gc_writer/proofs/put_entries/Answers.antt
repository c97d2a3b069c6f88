use mathlib.Core.Path.{refl, ap}
use Prim.Native.Nat.{ℕ, ◌+◌}
use native.Mathlib.Omega.{arith}
use Rattle.rules.specs.Trailer.{entry_bytes}
use Rattle.rules.proofs.TrailerLaws.{entry_length}
use Rattle.batch.specs.SizeLaws.{total-next}
use Rattle.batch_file.specs.Putting.{entries_from, putting-start, entry-fits, entry-put, entries-put}
use Rattle.rules.specs.Layout.{table_ids}
use Rattle.gc_writer.specs.Walk.{walk_end}
use Rattle.gc_writer.specs.Writing.{free-walking, free-put}
use Rattle.gc_writer.proofs.put_entries.Goals as goal

pub loop-i-init : goal.loop-i-init
loop-i-init c =
    (c.requires.leads, c.requires.free, putting-start entries_from _ _ _ _ _ refl)

pub turn_at-t-requires : goal.turn_at-t-requires
turn_at-t-requires c =
    let inv = c.loop-i.invariant in
    record {
      walking = free-walking inv.1;
      i_nonzero = omega (arith, c.loop-i-test.true);
      leads = inv.0;
    }

pub entry_of-e-requires : goal.entry_of-e-requires
entry_of-e-requires c =
    omega (arith, c.loop-i.invariant.2.bound, c.requires.links_len_bound)

pub put_entry-rest-requires : goal.put_entry-rest-requires
put_entry-rest-requires c =
    let inv = c.loop-i.invariant in
    omega (arith, entry-fits inv.2 c.turn_at-t.ensures.step, inv.1.inside)

pub overflow_add-to : goal.overflow_add-to
overflow_add-to c =
    omega (arith, entry-fits c.loop-i.invariant.2 c.turn_at-t.ensures.step, c.requires.free.inside)

pub overflow_add-position : goal.overflow_add-position
overflow_add-position c =
    let turn = c.turn_at-t.ensures in
    omega (arith, turn.long, total-next turn.step, c.loop-i.invariant.2.bound, c.requires.links_len_bound)

pub loop-i-smaller : goal.loop-i-smaller
loop-i-smaller c = c.turn_at-t.ensures.less

pub loop-i-preserved : goal.loop-i-preserved
loop-i-preserved c =
    let l = c.loop-i in
    let turn = c.turn_at-t.ensures in
    let put = c.put_entry-rest.ensures in
    let w = l.invariant.2 in
    let bytes = entry_bytes c.entry_of-e.result in
    let kept = free-put l.invariant.1 l.to bytes w.low (omega (arith, entry_length c.entry_of-e.result, entry-fits w turn.step)) put in (
      turn.leads,
      kept.0,
      rw (kept.1 c.turn_at-t.result.next) (entry-put w turn.step c.entry_of-e.ensures (ap (λ (n : ℕ). l.position + n) turn.long) put),
    )

pub shape_of-heap : goal.shape_of-heap
shape_of-heap c = c.loop-i.invariant.2.way.size

pub returns : goal.returns
returns c =
    let a = c.args in
    entries-put c.loop-i.invariant.2 (walk_end c.loop-i.heap (table_ids a.table.now) a.places.now a.links.now c.loop-i.i c.loop-i-test.false)
