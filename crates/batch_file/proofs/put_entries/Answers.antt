use mathlib.Core.Path.{ap}
use Prim.Native.Nat.{ℕ, ◌+◌}
use native.Mathlib.Omega.{arith}
use Rattle.batch.specs.WalkLaws.{stepped, stepped-end}
use Rattle.batch_file.specs.Putting.{entry-fits, entry-put, entries-put}
use Rattle.batch_file.proofs.put_entries.Goals as goal

pub returns : goal.returns
returns c =
    entries-put c.loop-o.invariant.1 (stepped-end c.args.batch.now _ c.next.ensures.steps c.in_default.is)

pub put_entry-rest-requires : goal.put_entry-rest-requires
put_entry-rest-requires c =
    omega (arith, entry-fits c.loop-o.invariant.1 (stepped _ c.next.ensures.steps c.next.ensures.within c.in-Some.is), c.requires.2, c.loop-o.invariant.1.way.size)

pub overflow_add-place : goal.overflow_add-place
overflow_add-place c =
    omega (arith, entry-fits c.loop-o.invariant.1 (stepped _ c.next.ensures.steps c.next.ensures.within c.in-Some.is), c.requires.2, c.well_formed)

pub loop-o-preserved : goal.loop-o-preserved
loop-o-preserved c =
    let e = stepped _ c.next.ensures.steps c.next.ensures.within c.in-Some.is in
    (omega arith, entry-put c.loop-o.invariant.1 e c.entry_of.ensures (ap (λ (n : ℕ). c.loop-o.position + n) c.size_of-position.ensures) c.put_entry-rest.ensures)
