use mathlib.Core.Path.{sym, ap, ◌∙◌}
use Rattle.trailer.specs.Entries.{entries-count}
use Rattle.rules.specs.declared.Entry.{Entry}
use lib.ListN.{drop}
use Rattle.rules.specs.Base.{any}
use Rattle.rules.specs.Trailer.{entries_in}
use Rattle.rules.specs.Table.{no_entry}
use Rattle.rules.proofs.TurnLaws.{any_here, any-later, any-end}
use Rattle.reopen_tests.specs.Ascending.{repeats}
use Prim.Native.Nat.{◌+◌}
use native.Mathlib.Omega.{arith}
use Rattle.reopen_tests.proofs.rising.repeated.Goals as goal

pub returns-then-repeats : goal.returns-then-repeats
returns-then-repeats c =
    let t = c.args.trailer.now in
    let es = entries_in t in
    let l = c.loop-j in
    let found = ap (repeats c.entry-e.result) (sym c.entry.ensures) ∙ sym c.repeats.ensures ∙ c.if-repeats.true in
    sym (any_here es l.j no_entry (omega (arith, entries-count t c.requires.trailer_in_bounds, l.invariant)) _ found) ∙ l.invariant.2
    ∙ ap (λ (e : Entry). any (repeats e) (drop (c.args.k + 1) es)) l.invariant.1

pub loop-j-preserved : goal.loop-j-preserved
loop-j-preserved c =
    let t = c.args.trailer.now in
    let es = entries_in t in
    let l = c.loop-j in
    let found = ap (repeats c.entry-e.result) (sym c.entry.ensures) ∙ sym c.repeats.ensures ∙ c.if-repeats.false in
    (l.invariant.0, l.invariant.1, any-later es l.j no_entry (omega (arith, entries-count t c.requires.trailer_in_bounds, l.invariant)) _ found ∙ l.invariant.2)

pub returns : goal.returns
returns c =
    let t = c.args.trailer.now in
    let es = entries_in t in
    let l = c.loop-j in
    sym (any-end es l.j (omega (arith, entries-count t c.requires.trailer_in_bounds, l.invariant)) _) ∙ l.invariant.2
    ∙ ap (λ (e : Entry). any (repeats e) (drop (c.args.k + 1) es)) l.invariant.1
