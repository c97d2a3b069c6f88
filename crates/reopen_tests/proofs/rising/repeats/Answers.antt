use mathlib.Core.Path.{refl, ap₂}
use lib.Dec.{leb}
use borrow.Author.Tests.{eq-eqb, ne_eqb}
use Rattle.reopen_tests.proofs.rising.repeats.Goals as goal

pub returns-then-d-e : goal.returns-then-d-e
returns-then-d-e c =
    let a = c.args in
    rw (eq-eqb a.d.id a.e.id c.if-d-e.true) (ap₂ leb c.position.ensures c.position-then-d-e.ensures)

pub returns-else-d-e : goal.returns-else-d-e
returns-else-d-e c =
    let a = c.args in
    rw (ne_eqb a.d.id a.e.id c.if-d-e.false) refl
