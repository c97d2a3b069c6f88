use mathlib.Core.Path.{sym, ap, ◌∙◌}
use mathlib.Core.Bool.{not}
use borrow.Author.Tests.{ne_eqb}
use Rattle.file_faults.proofs.Walks.{unmet-object, gone-elsewhere}
use Rattle.file_faults.proofs.entries.unmet.Goals as goal

pub returns-then-position-at : goal.returns-then-position-at
returns-then-position-at c =
    let a = c.args in
    let object = sym c.is_delete.ensures ∙ c.if-is_delete.false in
    let elsewhere = gone-elsewhere a.objects.now a.e a.at (c.requires object) (λ q. c.if-position-at.true (c.position.ensures ∙ q)) in
    rw (ne_eqb c.position.result a.at c.if-position-at.true) (sym (unmet-object a.objects.now a.e object ∙ ap not elsewhere))
