use mathlib.Core.Path.{refl}
use native.Mathlib.Omega.{arith}
use borrow.Author.Tests.{lt-ltb, le-ltb}
use Rattle.desk.specs.Commands.{nth}
use Rattle.desk.proofs.looks.check.Goals as goal

pub returns-then-room-gt4096 : goal.returns-then-room-gt4096
returns-then-room-gt4096 c =
    let a = c.args in
    rw (c.bad_line.ensures, lt-ltb 4096 (nth a.n 0) (omega arith)) refl

pub returns : goal.returns
returns c =
    let a = c.args in
    rw (c.shown.ensures, le-ltb 4096 (nth a.n 0) (omega arith)) refl
