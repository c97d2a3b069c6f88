use mathlib.Core.Path.{refl}
use native.Mathlib.Omega.{arith}
use borrow.Author.Tests.{lt-ltb, le-ltb}
use lib.ListN.{length}
use Rattle.gc_candidates.specs.Plan.{planned}
use Rattle.gc_plan.proofs.due_for.Goals as goal

pub returns-then-group_count-least : goal.returns-then-group_count-least
returns-then-group_count-least c =
    let a = c.args in
    rw (lt-ltb (length (planned a.plan.now a.generation)) a.least (omega (arith, c.group_count.ensures, c.if-group_count-least.true))) refl

pub returns : goal.returns
returns c =
    let a = c.args in
    rw (le-ltb (length (planned a.plan.now a.generation)) a.least (omega (arith, c.group_count.ensures, c.if-group_count-least.false))) refl
