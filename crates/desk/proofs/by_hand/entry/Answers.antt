use mathlib.Core.Path.{refl, ap}
use native.Mathlib.Omega.{arith}
use borrow.Author.Tests.{le-leb, lt-leb}
use Rattle.rules.specs.Layout.{Table, capacity_of}
use Rattle.desk.specs.Desk.{desk, changed}
use Rattle.desk.proofs.by_hand.entry.Goals as goal

pub returns-then-capacity-k : goal.returns-then-capacity-k
returns-then-capacity-k c =
    let n = c.capacity.ensures in
    let a = c.args in
    λ heap. rw (c.bad_line.ensures, le-leb (capacity_of a.table.now) a.k (omega (arith, n))) refl

pub returns : goal.returns
returns c =
    let n = c.capacity.ensures in
    let a = c.args in
    λ heap.
    rw (c.done.ensures, lt-leb (capacity_of a.table.now) a.k (omega (arith, n))) (ap (λ (t : Table). changed (desk a.b heap t)) c.set_pair.ensures)
