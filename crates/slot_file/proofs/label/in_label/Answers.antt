use mathlib.Core.Path.{refl}
use borrow.Author.Tests.{eq-eqb, ne_eqb}
use lib.ListN.{get_or-eq_default, get_or}
use Rattle.rules.specs.Label.{label_in}
use native.Mathlib.Omega.{arith}
use Rattle.slot_file.proofs.label.in_label.Goals as goal

pub returns-then-s-eq0 : goal.returns-then-s-eq0
unfolding label_in
returns-then-s-eq0 c =
    let s = c.args.s.now in
    rw (eq-eqb (get_or s 0 0) 0 (get_or-eq_default s 0 {n = 0} (omega arith))) refl

pub returns-then-s-eq0-2 : goal.returns-then-s-eq0-2
unfolding label_in
returns-then-s-eq0-2 c =
    let s = c.args.s.now in
    rw (eq-eqb (get_or s 0 0) 0 c.if-s-eq0-2.true) refl

pub returns : goal.returns
unfolding label_in
returns c =
    let s = c.args.s.now in
    rw (ne_eqb (get_or s 0 0) 0 c.if-s-eq0-2.false) c.five.ensures
