use mathlib.Core.Path.{◌≡◌, sym, ◌∙◌}
use native.Mathlib.Omega.{arith}
use borrow.Author.Rules.{rules}
use lib.ListN.{length}
use Rattle.rules.proofs.Condition1Laws.{in-limits}
use Rattle.salvage.specs.Answers.{salvage-refused, salvage-done}
use Rattle.losses.specs.Few.{all-emptied}
use Rattle.salvage.proofs.salvage.Goals as goal

pub returns-then-out_of_range : goal.returns-then-out_of_range
returns-then-out_of_range c =
    let a = c.args in
    salvage-refused a.settings a.heap.now a.table.now a.report.now (sym c.out_of_range.ensures ∙ c.if-out_of_range.true)

pub give_up-requires : goal.give_up-requires
give_up-requires c =
    let a = c.args in
    let long : length a.report.now ≡ 512 = search rules in
    let w = in-limits a.settings (length a.heap.now) a.table.now (sym c.out_of_range.ensures ∙ c.if-out_of_range.false) in
    (w.settings, w.heap, omega arith)

pub returns : goal.returns
returns c =
    let a = c.args in
    let left = c.give_up.ensures in
    let w = in-limits a.settings (length a.heap.now) a.table.now (sym c.out_of_range.ensures ∙ c.if-out_of_range.false) in
    salvage-done a.settings a.heap.now a.table.now a.report.now (sym c.out_of_range.ensures ∙ c.if-out_of_range.false) _ _ _
    left.counts left.reports (left.heap ∙ all-emptied a.settings a.heap.now w.heap)
