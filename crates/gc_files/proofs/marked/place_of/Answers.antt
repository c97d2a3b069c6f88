use mathlib.Core.Path.{refl}
use borrow.Author.Tests.{eq-eqb, ne_eqb}
use Rattle.gc_files.specs.Places.{place_for}
use Rattle.gc_files.proofs.marked.place_of.Goals as goal

pub returns-then-mark-eq0 : goal.returns-then-mark-eq0
unfolding place_for
returns-then-mark-eq0 c = rw (eq-eqb c.args.mark 0 c.if-mark-eq0.true) refl

pub returns-in-At : goal.returns-in-At
unfolding place_for
returns-in-At c =
    rw (ne_eqb c.args.mark 0 c.if-mark-eq0.false, c.in-At.is, c.position.ensures) refl

pub returns-in-DeletedAt : goal.returns-in-DeletedAt
unfolding place_for
returns-in-DeletedAt c =
    rw (ne_eqb c.args.mark 0 c.if-mark-eq0.false, c.in-DeletedAt.is) refl

pub returns-in-Never : goal.returns-in-Never
unfolding place_for
returns-in-Never c =
    rw (ne_eqb c.args.mark 0 c.if-mark-eq0.false, c.in-Never.is) refl
