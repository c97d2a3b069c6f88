use mathlib.Core.Path.{refl}
use native.Mathlib.Omega.{arith}
use lib.ListN.{length}
use Rattle.as_numbers.specs.StateWords.{state_in}
use Rattle.limits.specs.Settled.{passed-bounded}
use Rattle.gc_nightly.proofs.Midway.{midway_start, midway-own, midway-stopped, midway-step, midway_end}
use Rattle.gc_nightly.proofs.rewrites.Goals as goal

pub count_in-count-requires : goal.count_in-count-requires
count_in-count-requires c =
    let a = c.args in
    passed-bounded a.settings (length a.heap.now) a.table.now (state_in a.state.now) c.requires.passed_2

pub loop-generation-init : goal.loop-generation-init
loop-generation-init c = midway_start _ _ _ _ _ _ _ _ _ c.requires.passed_2

pub rewrite_generation-requires : goal.rewrite_generation-requires
rewrite_generation-requires c =
    let m = c.loop-generation.invariant in
    let notes = c.requires.table_in_bounds in record {
      passed_2 = m.limits;
      table_in_bounds = (omega (arith, notes.0, m.table-long, m.places-long), omega (arith, notes.1, m.table-long, m.pieces-long));
      generation_nonzero = (m.low, omega arith);
    }

pub overflow_add-moved : goal.overflow_add-moved
overflow_add-moved c =
    let m = c.loop-generation.invariant in
    record { fits = omega (arith, m.few, c.in-Ok.ensures.moved) }

pub loop-generation-preserved : goal.loop-generation-preserved
loop-generation-preserved c =
    let l = c.loop-generation in
    let r = c.rewrite_generation in
    midway-step _ _ _ _ _ _ _ _ _ l.generation l.moved (state_in l.state) l.heap l.table l.places l.pieces l.invariant c.requires.table_in_bounds (omega arith)
    r.result _ _ _ r.ensures.leaves _ _ _ c.in-Ok.is r.ensures.passed c.in-Ok.ensures.moved r.auto.heap r.auto.table r.auto.places r.auto.pieces

pub returns-in-Err : goal.returns-in-Err
unfolding state_in
returns-in-Err c =
    let l = c.loop-generation in
    let r = c.rewrite_generation in record {
      leaves = midway-stopped _ _ _ _ _ _ _ _ _ l.generation l.moved (state_in l.state) l.heap l.table l.places l.pieces l.invariant c.requires.table_in_bounds (omega arith)
          r.result _ _ _ r.ensures.leaves _ c.in-Err.is refl c.count_in-count.ensures;
      passed = r.ensures.passed;
      own = midway-own _ _ _ _ _ _ _ _ _ l.generation l.moved (state_in l.state) l.heap l.table l.places l.pieces l.invariant c.requires.table_in_bounds (omega arith)
          r.result _ _ _ r.ensures.leaves _ c.in-Err.is;
    }

pub returns : goal.returns
unfolding state_in
returns c =
    let l = c.loop-generation in record {
      leaves = midway_end _ _ _ _ _ _ _ _ _ l.generation l.moved (state_in l.state) l.heap l.table l.places l.pieces l.invariant (omega arith) refl
          c.count_in-count.ensures;
      passed = l.invariant.limits;
      own = tt;
    }
