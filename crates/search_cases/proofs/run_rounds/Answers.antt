use Rattle.std.proofs.Common.{sym, ◌∙◌, rules}
use Rattle.location_table.specs.Tables.{Formed}
use Rattle.location_table.specs.LayoutLaws.{formed-of}
use Rattle.search_cases.proofs.run_rounds.Goals as goal

pub rounds-places-requires-clause-callable : goal.rounds-places-requires-clause-callable
rounds-places-requires-clause-callable g c =
    let form : Formed c.args.table.now = formed-of c.args.table.now (sym c.formed.ensures ∙ c.if-not-formed.false) in search rules

pub rounds-places-requires-else-halving-clause-callable : goal.rounds-places-requires-else-halving-clause-callable
rounds-places-requires-else-halving-clause-callable g c =
    let form : Formed c.args.table.now = formed-of c.args.table.now (sym c.formed.ensures ∙ c.if-not-formed.false) in search rules
