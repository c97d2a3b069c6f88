use mathlib.Core.Path.{sym, ◌∙◌}
use lib.ListN.{length}
use Rattle.rules.proofs.Condition1Laws.{passed}
use Rattle.limits.specs.Settled.{passed-formed}
use Rattle.listing.proofs.list.Goals as goal

pub used-requires : goal.used-requires
used-requires g c =
    let a = c.args in
    let n = length a.heap.now in
    let clear = sym c.refused.ensures ∙ c.if-refused.false in
    let b = a.table.now in
    passed-formed a.settings n b a.state (passed a.settings n b a.state clear)
