use mathlib.Core.Path.{sym, ◌∙◌}
use borrow.Author.Tests.{eq-eqb, ne_eqb}
use Rattle.rules.specs.Maintenance.{is_candidate}
use Rattle.gc_candidates.proofs.is_candidate.Goals as goal

pub returns-then-is_empty : goal.returns-then-is_empty
unfolding is_candidate
returns-then-is_empty c = let e = sym c.is_empty.ensures ∙ c.if-is_empty.true in rw e

pub returns-then-is_claimed : goal.returns-then-is_claimed
unfolding is_candidate
returns-then-is_claimed c =
    let e = sym c.is_empty.ensures ∙ c.if-is_empty.false in
    let f = sym c.is_claimed.ensures ∙ c.if-is_claimed.true in
    rw (e, f)

pub returns-then-r-eq0 : goal.returns-then-r-eq0
unfolding is_candidate
returns-then-r-eq0 c =
    let e = sym c.is_empty.ensures ∙ c.if-is_empty.false in
    let f = sym c.is_claimed.ensures ∙ c.if-is_claimed.false in
    rw (e, f, eq-eqb _ 0 c.if-r-eq0.true)

pub returns-then-not-worth_it : goal.returns-then-not-worth_it
unfolding is_candidate
returns-then-not-worth_it c =
    let e = sym c.is_empty.ensures ∙ c.if-is_empty.false in
    let f = sym c.is_claimed.ensures ∙ c.if-is_claimed.false in
    rw (e, f, ne_eqb _ 0 c.if-r-eq0.false, sym c.worth_it.ensures ∙ c.if-not-worth_it.true)

pub returns : goal.returns
unfolding is_candidate
returns c =
    let e = sym c.is_empty.ensures ∙ c.if-is_empty.false in
    let f = sym c.is_claimed.ensures ∙ c.if-is_claimed.false in
    let g = sym c.worth_it.ensures ∙ c.if-not-worth_it.false in
    rw (e, f, ne_eqb _ 0 c.if-r-eq0.false, g, c.masked.ensures)
