use mathlib.Core.Path.{refl}
use Prim.Native.Nat.{◌+◌}
use native.Mathlib.Omega.{arith}
use borrow.Author.Tests.{lt-ltb, le-ltb}
use lib.ListN.{length}
use Rattle.desk.proofs.looks.bytes.Goals as goal

pub returns-then-count-gt65536 : goal.returns-then-count-gt65536
returns-then-count-gt65536 c =
    let a = c.args in
    λ table. rw (c.bad_line.ensures, lt-ltb 65536 a.count (omega arith)) refl

pub returns-then-len-count : goal.returns-then-len-count
returns-then-len-count c =
    let a = c.args in
    λ table.
    rw (c.bad_line-then-len-count.ensures, le-ltb 65536 a.count (omega arith), lt-ltb (length a.heap.now) (a.at + a.count) (omega arith)) refl

pub returns-then-len-count-2 : goal.returns-then-len-count-2
returns-then-len-count-2 c =
    let a = c.args in
    λ table.
    rw (c.bad_line-then-len-count-2.ensures, le-ltb 65536 a.count (omega arith), lt-ltb (length a.heap.now) (a.at + a.count) (omega arith)) refl

pub returns : goal.returns
returns c =
    let a = c.args in
    λ table.
    rw (c.shown.ensures, le-ltb 65536 a.count (omega arith), le-ltb (length a.heap.now) (a.at + a.count) (omega arith)) refl
