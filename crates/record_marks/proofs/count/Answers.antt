use Rattle.std.proofs.Common.{◌≡◌, ◌^◌, ◌≤◌, length, rules, arith, ◌∙◌}
use Rattle.std.proofs.lemmas.Iterator.{YieldsList-from_slice}
use Rattle.std.proofs.lemmas.Iterator.Adapters.{fits_from_length, at_most_from_yields_List}
use Rattle.std.proofs.iter.runs.Made.{chains}
use Rattle.std.specs.List.{sum_by}
use Rattle.rules.specs.Base.{pick}
use Rattle.rules.specs.Sync.{is_unsynced}
use Rattle.rules.specs.declared.Record.{Record}
use Rattle.record_marks.proofs.MarkTurns.{counted}
use Rattle.record_marks.proofs.count.Goals as goal

pub sum-requires-clause-fits : goal.sum-requires-clause-fits
sum-requires-clause-fits c =
    let short : length c.args.records.now ≤ 2 ^ 63 = search rules in
    fits_from_length _ _ (2 ^ 63) (2 ^ 64) (at_most_from_yields_List (YieldsList-from_slice c.args.records.now cc) short) c.map.ensures.closure (omega arith) (λ x r q k. search rules)

pub returns : goal.returns
returns c =
    let n : c.sum.result ≡ sum_by (λ (r : Record). pick (is_unsynced r) 1 0) c.args.records.now = search (rules, chains) in
    n ∙ counted c.args.records.now
