use mathlib.Core.Path.{sym, refl, ◌∙◌}
use Rattle.rules.specs.Trailer.{entries_in}
use Rattle.trailer.specs.Entries.{entries-count}
use Rattle.reopen_tests.proofs.TestTurns.{rising-here, rising-later, rising-end}
use native.Mathlib.Omega.{arith}
use Rattle.reopen_tests.proofs.rising.some_repeated.Goals as goal

pub loop-k-init : goal.loop-k-init
loop-k-init c = (c.count-k-end.ensures, refl)

pub returns-then-repeated : goal.returns-then-repeated
returns-then-repeated c =
    let t = c.args.trailer.now in
    let l = c.loop-k in
    sym (rising-here (entries_in t) l.k (omega (arith, entries-count t c.requires, l.invariant)) (sym c.repeated.ensures ∙ c.if-repeated.true)) ∙ l.invariant.1

pub loop-k-preserved : goal.loop-k-preserved
loop-k-preserved c =
    let t = c.args.trailer.now in
    let l = c.loop-k in
    (l.invariant.0, rising-later (entries_in t) l.k (omega (arith, entries-count t c.requires, l.invariant)) (sym c.repeated.ensures ∙ c.if-repeated.false) ∙ l.invariant.1)

pub returns : goal.returns
returns c =
    let t = c.args.trailer.now in
    let l = c.loop-k in
    sym (rising-end (entries_in t) l.k (omega (arith, entries-count t c.requires, l.invariant))) ∙ l.invariant.1
