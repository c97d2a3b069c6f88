use mathlib.Core.Path.{refl, ap, ◌∙◌}
use Prim.Native.Nat.{ℕ, ◌+◌}
use native.Mathlib.Omega.{arith}
use Rattle.rules.specs.Ops.{content_bytes}
use Rattle.batch.specs.Reading.{op_in}
use Rattle.batch.specs.SizeLaws.{total-next}
use Rattle.batch_file.specs.Steps.{content-size}
use Rattle.batch_file.specs.Putting.{objects_from, putting-start, object-fits, object-put, objects-put}
use Rattle.batch_file.specs.Summing.{summing_start, summing-next, summing-end}
use Rattle.rules.specs.Layout.{table_ids}
use Rattle.gc_writer.specs.Walk.{walk_end}
use Rattle.gc_writer.specs.Writing.{free-walking, free-put, turned-off, turned-movable}
use Rattle.gc_writer.proofs.put_objects.Goals as goal

pub loop-i-init : goal.loop-i-init
loop-i-init c =
    (c.requires.leads, c.requires.free, summing_start refl c.requires.count_value c.requires.links_len_bound c.sum_count-register.ensures, putting-start objects_from _ _ _ _ _ refl)

pub turn_at-t-requires : goal.turn_at-t-requires
turn_at-t-requires c =
    let inv = c.loop-i.invariant in
    record {
      walking = free-walking inv.1;
      i_nonzero = omega (arith, c.loop-i-test.true);
      leads = inv.0;
    }

pub entry_of-e-requires : goal.entry_of-e-requires
entry_of-e-requires c = omega (arith, c.loop-i.invariant.2.low)

pub put_content-rest-requires : goal.put_content-rest-requires
put_content-rest-requires c =
    let l = c.loop-i in
    let turn = c.turn_at-t.ensures in
    let free = l.invariant.1 in
    let fits = object-fits l.invariant.3 turn.step in
    record {
      o_in_bounds = (omega (arith, fits, free.inside), turn.step.inside, turned-off free turn l.to l.invariant.3.low fits);
      movable = turned-movable free turn;
    }

pub overflow_add-to : goal.overflow_add-to
overflow_add-to c =
    let turn = c.turn_at-t.ensures in
    omega (arith, object-fits c.loop-i.invariant.3 turn.step, turn.long, c.requires.free.inside)

pub overflow_add-position : goal.overflow_add-position
overflow_add-position c =
    omega (arith, c.turn_at-t.ensures.long, total-next c.turn_at-t.ensures.step, c.loop-i.invariant.2.low)

pub loop-i-smaller : goal.loop-i-smaller
loop-i-smaller c = c.turn_at-t.ensures.less

pub loop-i-preserved : goal.loop-i-preserved
loop-i-preserved c =
    let l = c.loop-i in
    let turn = c.turn_at-t.ensures in
    let o = c.turn_at-t.result.operation in
    let put = c.put_content-rest.ensures in
    let w = l.invariant.3 in
    let next = c.turn_at-t.result.next in
    let kept = free-put l.invariant.1 l.to (content_bytes o.id (op_in l.heap o).content) w.low (omega (arith, object-fits w turn.step, content-size turn.step)) put in (
      turn.leads,
      kept.0,
      rw (kept.1 next) (summing-next l.invariant.2 turn.step c.entry_of-e.ensures c.sum_entry-register.ensures (ap (λ (n : ℕ). l.position + n) turn.long)),
      rw (kept.1 next) (object-put w turn.step (ap (λ (n : ℕ). l.to + n) turn.long) (omega arith) put),
    )

pub shape_of-heap : goal.shape_of-heap
shape_of-heap c = c.loop-i.invariant.3.way.size

pub returns : goal.returns
returns c =
    let a = c.args in
    let none = walk_end c.loop-i.heap (table_ids a.table.now) a.places.now a.links.now c.loop-i.i c.loop-i-test.false in
    record {
      made = objects-put c.loop-i.invariant.3 none;
      summed = c.sum_end.ensures ∙ summing-end c.loop-i.invariant.2 none;
    }
