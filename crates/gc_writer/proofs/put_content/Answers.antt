use mathlib.Core.Logic.{inl, inr, ⊎_elim}
use native.Mathlib.Omega.{arith}
use Rattle.rules.specs.Stores.{stores_of}
use Rattle.stores.specs.Runs.{made_none}
use Rattle.gc_writer.specs.Writing.{Movable}
use Rattle.gc_writer.proofs.put_content.Goals as goal

pub returns-then-o : goal.returns-then-o
unfolding stores_of
returns-then-o c = rw c.if-o.true (made_none _ _)

pub overflow_sub-o : goal.overflow_sub-o
overflow_sub-o c = omega (arith, (c.requires.movable c.if-o.false).header)

pub move_bytes-requires : goal.move_bytes-requires
move_bytes-requires c =
    let asked = rw c.if-o.false at c.requires.o_in_bounds in
    let header = (c.requires.movable c.if-o.false).header in
    (omega (arith, asked.0), omega (arith, asked.1), ⊎_elim (λ h. inl (omega arith)) (λ h. inr (omega arith)) asked.2)

pub returns : goal.returns
returns c =
    rw c.if-o.false (rw (c.requires.movable c.if-o.false).bytes at c.move_bytes.ensures)
