use mathlib.Core.Path.{refl, ap}
use Prim.Native.Nat.{◌+◌, ◌≤◌, ℕ}
use native.Mathlib.Omega.{arith}
use borrow.Author.Tests.{lt-ltb, le-ltb}
use lib.ListN.{length}
use mathlib.Core.List.{List}
use Rattle.numbers.proofs.Lent.{lent}
use Rattle.desk.specs.Desk.{desk, changed}
use Rattle.desk.proofs.by_hand.poke.Goals as goal

pub returns-then-heap-bytes : goal.returns-then-heap-bytes
returns-then-heap-bytes c =
    let a = c.args in
    λ table. rw (c.bad_line.ensures, lt-ltb (length a.heap.now) (a.at + length a.bytes.now) (omega arith)) refl

pub returns-then-heap-bytes-2 : goal.returns-then-heap-bytes-2
returns-then-heap-bytes-2 c =
    let a = c.args in
    λ table. rw (c.bad_line-then-heap-bytes-2.ensures, lt-ltb (length a.heap.now) (a.at + length a.bytes.now) (omega arith)) refl

pub returns : goal.returns
returns c =
    let a = c.args in
    let fit : a.at + length a.bytes.now ≤ length a.heap.now = omega arith in
    λ table.
    rw (c.done.ensures, le-ltb (length a.heap.now) (a.at + length a.bytes.now) fit)
    (ap (λ (h : List ℕ). changed (desk a.b h table)) (lent _ _ a.bytes.now a.at fit c.copy.ensures))
