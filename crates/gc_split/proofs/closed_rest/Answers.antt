use mathlib.Core.Path.{refl}
use borrow.Author.Tests.{eq-eqb, ne_eqb}
use Rattle.gc_split.proofs.closed_rest.Goals as goal

pub returns-then-count-eq0 : goal.returns-then-count-eq0
returns-then-count-eq0 c = rw (eq-eqb c.args.count 0 c.if-count-eq0.true) refl

pub returns : goal.returns
returns c = rw (ne_eqb c.args.count 0 c.if-count-eq0.false) c.closed.ensures
