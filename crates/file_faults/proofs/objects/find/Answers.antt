use mathlib.Core.Path.{sym, ap, ◌∙◌}
use Prim.Native.Nat.{◌≤◌}
use lib.ListN.{length}
use Rattle.rules.specs.Table.{no_entry}
use Rattle.rules.specs.Trailer.{entries_in}
use Rattle.trailer.specs.Entries.{entries-count}
use Rattle.file_faults.proofs.Search.{part-here, part-later, part_end}
use Rattle.file_faults.specs.Walks.{entered_as}
use native.Mathlib.Omega.{arith}
use Rattle.file_faults.proofs.objects.find.Goals as goal

pub returns-then-stands : goal.returns-then-stands
returns-then-stands c =
    let a = c.args in
    let es = entries_in a.trailer.now in
    let k = c.loop-k.k in
    let fit : a.to ≤ length es = omega (arith, c.requires.1, entries-count a.trailer.now c.requires.2) in
    let here = ap (entered_as a.id a.position) (sym c.entry.ensures) ∙ sym c.stands.ensures ∙ c.if-stands.true in
    (c.loop-k-test.true, sym c.loop-k.invariant ∙ part-here (entered_as a.id a.position) es a.to no_entry fit k c.loop-k-test.true here)

pub loop-k-preserved : goal.loop-k-preserved
loop-k-preserved c =
    let a = c.args in
    let es = entries_in a.trailer.now in
    let fit : a.to ≤ length es = omega (arith, c.requires.1, entries-count a.trailer.now c.requires.2) in
    let other = ap (entered_as a.id a.position) (sym c.entry.ensures) ∙ sym c.stands.ensures ∙ c.if-stands.false in
    part-later (entered_as a.id a.position) es a.to no_entry fit c.loop-k.k c.loop-k-test.true other ∙ c.loop-k.invariant

pub returns : goal.returns
returns c =
    let a = c.args in
    let es = entries_in a.trailer.now in
    let fit : a.to ≤ length es = omega (arith, c.requires.1, entries-count a.trailer.now c.requires.2) in
    sym c.loop-k.invariant ∙ part_end (entered_as a.id a.position) es a.to no_entry fit c.loop-k.k c.loop-k-test.false
