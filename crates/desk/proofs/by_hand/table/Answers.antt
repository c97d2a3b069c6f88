use mathlib.Core.Path.{refl, ap}
use native.Mathlib.Omega.{arith}
use borrow.Author.Tests.{lt-ltb, le-ltb}
use lib.ListN.{length}
use Rattle.rules.specs.Layout.{Table}
use Rattle.desk.specs.Desk.{desk, changed}
use Rattle.desk.specs.Commands.{lending_table}
use Rattle.desk.proofs.by_hand.table.Goals as goal

pub returns-then-table-words : goal.returns-then-table-words
returns-then-table-words c =
    let a = c.args in
    λ heap. rw (c.bad_line.ensures, lt-ltb (length a.table.now) a.words (omega arith)) refl

pub returns : goal.returns
returns c =
    let a = c.args in
    λ heap.
    rw (c.done.ensures, le-ltb (length a.table.now) a.words (omega arith))
    (ap (λ (t : Table). changed (desk (lending_table a.b a.words) heap t)) c.clear.ensures)
