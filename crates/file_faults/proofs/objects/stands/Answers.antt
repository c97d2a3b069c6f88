use mathlib.Core.Path.{refl, sym, ap, ◌∙◌}
use Prim.Native.Nat.{ℕ}
use borrow.Author.Tests.{eq-eqb, ne_eqb}
use lib.Dec.{eqb}
use Rattle.file_faults.proofs.objects.stands.Goals as goal

pub returns-then-e-id : goal.returns-then-e-id
returns-then-e-id c =
    let a = c.args in
    rw (ne_eqb a.e.id a.id c.if-e-id.true) refl

pub returns-then-is_delete : goal.returns-then-is_delete
returns-then-is_delete c =
    let a = c.args in
    rw (eq-eqb a.e.id a.id c.if-e-id.false, sym c.is_delete.ensures ∙ c.if-is_delete.true) refl

pub returns : goal.returns
returns c =
    let a = c.args in
    rw (eq-eqb a.e.id a.id c.if-e-id.false, sym c.is_delete.ensures ∙ c.if-is_delete.false) (ap (λ (p : ℕ). eqb p a.position) c.position.ensures)
