use mathlib.Core.Path.{sym, ◌∙◌}
use Rattle.rules.proofs.Condition1Laws.{in-limits}
use Rattle.recovery.proofs.Steps.{at-limits, past-limits}
use lib.ListN.{length}
use Rattle.recovery.proofs.reopen.Goals as goal

pub returns-then-out_of_range : goal.returns-then-out_of_range
returns-then-out_of_range c =
    let a = c.args in
    at-limits a.settings a.state a.claims a.heap.now a.table.now (sym c.out_of_range.ensures ∙ c.if-out_of_range.true)

pub recovered-requires : goal.recovered-requires
recovered-requires c =
    let a = c.args in
    in-limits a.settings (length a.heap.now) a.table.now (sym c.out_of_range.ensures ∙ c.if-out_of_range.false)

pub returns : goal.returns
returns c =
    let a = c.args in
    c.recovered.ensures ∙ past-limits a.settings a.state a.claims a.heap.now a.table.now (sym c.out_of_range.ensures ∙ c.if-out_of_range.false)
