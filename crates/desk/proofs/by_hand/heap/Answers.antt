use mathlib.Core.Path.{refl}
use native.Mathlib.Omega.{arith}
use borrow.Author.Tests.{lt-ltb, le-ltb}
use lib.ListN.{length}
use Rattle.desk.proofs.by_hand.heap.Goals as goal

pub returns-then-heap-bytes : goal.returns-then-heap-bytes
returns-then-heap-bytes c =
    let a = c.args in
    λ table. rw (c.bad_line.ensures, lt-ltb (length a.heap.now) a.bytes (omega arith)) refl

pub returns : goal.returns
returns c =
    let a = c.args in
    λ table. rw (c.done.ensures, c.fill.ensures.after (λ y e. e), le-ltb (length a.heap.now) a.bytes (omega arith)) refl
