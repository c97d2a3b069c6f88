use mathlib.Core.Path.{sym, ap, ◌∙◌}
use mathlib.Core.Bool.{Bool}
use mathlib.Core.List.{[]}
use Rattle.numbers.specs.Choice.{pick}
use Rattle.script.specs.declared.Keyword.TheVariants.{Bad}
use Rattle.script.specs.Asked.{bare, ends_well, bytes_in, ended_by, order_for}
use Rattle.script.proofs.ended.Goals as goal

pub returns-then-not-no_more : goal.returns-then-not-no_more
unfolding ended_by ends_well bytes_in
returns-then-not-no_more c =
    let a = c.args in
    c.no_order.ensures ∙ sym (ap (λ (t : Bool). order_for (pick t (record { keyword = a.keyword; numbers = a.numbers; bytes = [] }) (bare Bad))) (sym c.no_more.ensures ∙ c.if-not-no_more.true))

pub returns : goal.returns
unfolding ended_by ends_well bytes_in order_for
returns c =
    let a = c.args in
    sym (ap (λ (t : Bool). order_for (pick t (record { keyword = a.keyword; numbers = a.numbers; bytes = [] }) (bare Bad))) (sym c.no_more.ensures ∙ c.if-not-no_more.false))
