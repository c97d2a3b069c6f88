use mathlib.Core.Path.{sym, ap, ◌∙◌}
use mathlib.Core.Bool.{Bool}
use Rattle.numbers.specs.Choice.{pick}
use Rattle.script.specs.declared.Keyword.TheVariants.{Blank, Bad}
use Rattle.script.specs.Asked.{bare, order_for}
use Rattle.script.proofs.wordless.Goals as goal

pub returns-then-comment : goal.returns-then-comment
returns-then-comment c = c.no_order.ensures ∙ sym (ap (λ (t : Bool). order_for (bare (pick t Blank Bad))) c.if-comment.true)

pub returns : goal.returns
returns c = c.no_order-2.ensures ∙ sym (ap (λ (t : Bool). order_for (bare (pick t Blank Bad))) c.if-comment.false)
