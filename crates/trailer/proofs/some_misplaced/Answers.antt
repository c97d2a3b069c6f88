use mathlib.Core.Path.{sym, ap, ◌∙◌}
use Rattle.rules.proofs.TurnLaws.{any_here, any-later, any-end}
use Rattle.rules.specs.Trailer.{entries_in, misplaced}
use Rattle.rules.specs.Table.{no_entry}
use Rattle.trailer.specs.Entries.{entries-count}
use native.Mathlib.Omega.{arith}
use Rattle.trailer.proofs.some_misplaced.Goals as goal

pub returns-then-misplaced : goal.returns-then-misplaced
returns-then-misplaced c =
    let l = c.loop-k in
    let a = c.args in
    let is = c.misplaced.ensures ∙ ap (misplaced a.offset) c.entry.ensures in
    sym (any_here (entries_in a.trailer.now) l.k no_entry (omega (arith, entries-count a.trailer.now c.requires)) (misplaced a.offset) (sym is ∙ c.if-misplaced.true)) ∙ l.invariant

pub loop-k-preserved : goal.loop-k-preserved
loop-k-preserved c =
    let l = c.loop-k in
    let a = c.args in
    let is = c.misplaced.ensures ∙ ap (misplaced a.offset) c.entry.ensures in
    any-later (entries_in a.trailer.now) l.k no_entry (omega (arith, entries-count a.trailer.now c.requires)) (misplaced a.offset) (sym is ∙ c.if-misplaced.false) ∙ l.invariant

pub returns : goal.returns
returns c =
    let l = c.loop-k in
    let es = entries_in c.args.trailer.now in
    sym (any-end es l.k (omega (arith, entries-count c.args.trailer.now c.requires)) (misplaced c.args.offset)) ∙ l.invariant
