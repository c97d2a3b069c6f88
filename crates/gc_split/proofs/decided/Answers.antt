use mathlib.Core.Path.{refl, sym, ◌∙◌}
use borrow.Author.Tests.{lt-ltb, le-ltb}
use Rattle.rules.specs.Refusal.{decide}
use Rattle.gc_split.specs.TotalLaws.{totals_tests}
use Prim.Native.Nat.{◌≤◌, ◌<◌}
use native.Mathlib.Omega.{arith}
use Rattle.gc_split.proofs.decided.Goals as goal

pub returns-then-t : goal.returns-then-t
unfolding totals_tests decide
returns-then-t c = rw c.if-t.true refl

pub returns-then-empty-t : goal.returns-then-empty-t
unfolding totals_tests decide
returns-then-empty-t c =
    let t = c.args.t in
    let empty = c.args.empty in
    let base = c.args.base in
    rw (c.if-t.false, lt-ltb empty t.files c.if-empty-t.true) refl

pub returns-then-t-eq0 : goal.returns-then-t-eq0
unfolding totals_tests decide
returns-then-t-eq0 c =
    let t = c.args.t in
    let empty = c.args.empty in
    let base = c.args.base in
    let none : t.files ≤ 0 = omega arith in
    rw (c.if-t.false, le-ltb empty t.files (omega (arith, c.if-empty-t.false)), le-ltb 0 t.files none) refl

pub returns-then-spent : goal.returns-then-spent
unfolding totals_tests decide
returns-then-spent c =
    let t = c.args.t in
    let empty = c.args.empty in
    let some : 0 < t.files = omega arith in
    rw (c.if-t.false, le-ltb empty t.files (omega (arith, c.if-empty-t.false)), lt-ltb 0 t.files some, sym c.spent.ensures ∙ c.if-spent.true) refl

pub returns : goal.returns
unfolding totals_tests decide
returns c =
    let t = c.args.t in
    let empty = c.args.empty in
    let some : 0 < t.files = omega arith in
    rw (c.if-t.false, le-ltb empty t.files (omega (arith, c.if-empty-t.false)), lt-ltb 0 t.files some, sym c.spent.ensures ∙ c.if-spent.false) refl
