use mathlib.Core.Path.{◌∙◌}
use mathlib.Core.Bool.{Bool}
use borrow.Author.Rules.{rules}
use Rattle.std.proofs.lemmas.Iterator.{YieldsList-from_slice}
use Rattle.std.proofs.lemmas.Iterator.Search.{any_from_yields_List}
use Rattle.reopen_tests.specs.Labels.{clash}
use Rattle.checker.specs.Types.{Label}
use Rattle.checker.proofs.SlotLines.{any-list}
use Rattle.checker.proofs.slots.meets_earlier.Goals as goal

pub returns : goal.returns
returns c =
    let f : Label → Bool = λ m. clash m c.args.l in
    any_from_yields_List f _ _ _ c.any.ensures.ran (YieldsList-from_slice c.args.earlier.now cc) (λ x b q called. search rules) ∙ any-list f c.args.earlier.now
