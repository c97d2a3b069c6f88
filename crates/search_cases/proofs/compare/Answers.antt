use Rattle.std.proofs.Common.{sym, ◌∙◌, arith}
use Rattle.location_table.specs.LayoutLaws.{formed-of}
use Rattle.search_cases.proofs.compare.Goals as goal

pub all_sought-requires : goal.all_sought-requires
all_sought-requires g c = (formed-of c.args.table.now (sym c.formed.ensures ∙ c.if-not-formed.false), omega arith)
