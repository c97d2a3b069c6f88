use Rattle.std.proofs.Common.{rules}
use mathlib.Core.Path.{◌≡◌, sym, ap, ◌∙◌}
use lib.ListN.{length}
use Rattle.rules.specs.Condition1.{condition_one}
use Rattle.rules.specs.World.{world}
use Rattle.write_decision.specs.DecisionLaws.{decision-1, decision-batch}
use Rattle.write_decision.proofs.decided.Goals as goal

pub returns-then-refused_apart-clause-decides : goal.returns-then-refused_apart-clause-decides
returns-then-refused_apart-clause-decides c =
    let a = c.args in
    let one : c.refused_apart.result ≡ condition_one a.settings (length a.heap.now) a.table.now a.state =
    c.refused_apart.ensures.answers a.state.files c.bad_files-bad.ensures ∙ ap (condition_one a.settings (length a.heap.now) a.table.now) c.rest_of-rest.ensures in
    λ w. decision-1 (world a.settings a.state w a.heap.now a.table.now) a.batch.now (sym one ∙ c.if-refused_apart.true)

pub returns-in_err-check-clause-decides : goal.returns-in_err-check-clause-decides
returns-in_err-check-clause-decides c =
    let a = c.args in
    let one : c.refused_apart.result ≡ condition_one a.settings (length a.heap.now) a.table.now a.state =
    c.refused_apart.ensures.answers a.state.files c.bad_files-bad.ensures ∙ ap (condition_one a.settings (length a.heap.now) a.table.now) c.rest_of-rest.ensures in
    λ w. search (rules, decision-batch (world a.settings a.state w a.heap.now a.table.now) a.batch.now (sym one ∙ c.if-refused_apart.false) _ (sym c.in_err-check.ensures))
