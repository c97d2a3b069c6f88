use mathlib.Core.Path.{refl, sym, ◌∙◌}
use borrow.Author.Tests.{le-leb, lt-leb}
use lib.ListN.{length}
use Rattle.rules.specs.Refusal.{decide}
use Rattle.rules.specs.Settings.{slots_in}
use Rattle.claims.proofs.decided.Goals as goal

pub returns-then-refused_apart : goal.returns-then-refused_apart
unfolding decide
returns-then-refused_apart c = λ files claims bad. rw (sym (c.refused_apart.ensures.answers files bad) ∙ c.if-refused_apart.true) refl

pub returns-then-heap-s : goal.returns-then-heap-s
unfolding decide
returns-then-heap-s c =
    let a = c.args in
    λ files claims bad. rw (sym (c.refused_apart.ensures.answers files bad) ∙ c.if-refused_apart.false, le-leb (slots_in a.s (length a.heap.now)) a.slot c.if-heap-s.true) refl

pub returns-then-barred : goal.returns-then-barred
unfolding decide
returns-then-barred c =
    let a = c.args in
    λ files claims bad. rw (sym (c.refused_apart.ensures.answers files bad) ∙ c.if-refused_apart.false, lt-leb (slots_in a.s (length a.heap.now)) a.slot c.if-heap-s.false, c.if-barred.true) refl

pub returns : goal.returns
unfolding decide
returns c =
    let a = c.args in
    λ files claims bad. rw (sym (c.refused_apart.ensures.answers files bad) ∙ c.if-refused_apart.false, lt-leb (slots_in a.s (length a.heap.now)) a.slot c.if-heap-s.false, c.if-barred.false) refl
