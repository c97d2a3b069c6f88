use mathlib.Core.Path.{sym, ap, ◌∙◌}
use Rattle.trailer.specs.Entries.{entries-count}
use Rattle.rules.specs.declared.Entry.{Entry}
use Rattle.reopen_tests.proofs.TestTurns.{ascending-none, ascending-start, ascending-stop, ascending-next, ascending-end}
use lib.ListN.{drop}
use Rattle.rules.specs.Trailer.{entries_in}
use Rattle.reopen_tests.specs.Ascending.{ascending_from}
use Prim.Native.Nat.{ℕ, ◌+◌}
use native.Mathlib.Omega.{arith}
use Rattle.reopen_tests.proofs.rising.ascending.Goals as goal

pub returns-then-n-eq0 : goal.returns-then-n-eq0
returns-then-n-eq0 c =
    let t = c.args.trailer.now in
    sym (ascending-none (entries_in t) (omega (arith, entries-count t c.requires, c.count-n.ensures)))

pub loop-k-init : goal.loop-k-init
loop-k-init c =
    let t = c.args.trailer.now in
    let es = entries_in t in
    (c.count-n.ensures, ap (λ (e : Entry). ascending_from e.id (drop 1 es)) c.entry-last.ensures ∙ ascending-start es (omega (arith, entries-count t c.requires, c.count-n.ensures)))

pub returns-then-id-last : goal.returns-then-id-last
returns-then-id-last c =
    let t = c.args.trailer.now in
    let l = c.loop-k in
    let id = ap (λ (e : Entry). e.id) c.entry-id.ensures in
    sym (ascending-stop (entries_in t) l.last l.k (omega (arith, entries-count t c.requires, l.invariant)) (omega (arith, id))) ∙ l.invariant.1

pub loop-k-preserved : goal.loop-k-preserved
loop-k-preserved c =
    let t = c.args.trailer.now in
    let l = c.loop-k in
    let es = entries_in t in
    let id = ap (λ (e : Entry). e.id) c.entry-id.ensures in
    (l.invariant.0, ap (λ (x : ℕ). ascending_from x (drop (l.k + 1) es)) id ∙ ascending-next es l.last l.k (omega (arith, entries-count t c.requires, l.invariant)) (omega (arith, id)) ∙ l.invariant.1)

pub returns : goal.returns
returns c =
    let t = c.args.trailer.now in
    let l = c.loop-k in
    sym (ascending-end (entries_in t) l.last l.k (omega (arith, entries-count t c.requires, l.invariant))) ∙ l.invariant.1
