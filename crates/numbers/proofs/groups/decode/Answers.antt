use mathlib.Core.Path.{ap}
use mathlib.Core.Logic.{⊎_elim}
use Prim.Native.Nat.{ℕ, ◌-◌, ◌^◌}
use native.Mathlib.Omega.{arith}
use lib.ListN.{get_or}
use Rattle.numbers.proofs.GroupReading.{begin, seven, last, top, tenth, padded, cut_short, turn}
use Rattle.numbers.proofs.groups.decode.Goals as goal

pub loop-i-init : goal.loop-i-init
loop-i-init c = begin _ _

pub overflow_add-result : goal.overflow_add-result
overflow_add-result c =
    let below = ap (λ (n : ℕ). 2 ^ n) c.if-shift-eq63.true in
    record { fits = omega arith }

pub returns-then-b-eq1 : goal.returns-then-b-eq1
returns-then-b-eq1 c =
    top c.loop-i.invariant c.loop-i-test.true c.if-shift-eq63.true c.if-b-eq1.true

pub returns-then-shift-eq63 : goal.returns-then-shift-eq63
returns-then-shift-eq63 c =
    tenth c.loop-i.invariant c.loop-i-test.true c.if-shift-eq63.true c.if-b-eq1.false

pub returns-then-shift-gt0 : goal.returns-then-shift-gt0
returns-then-shift-gt0 c =
    padded c.loop-i.invariant c.loop-i-test.true (omega arith) (omega arith)

pub overflow_add-result-then-b-lt128 : goal.overflow_add-result-then-b-lt128
overflow_add-result-then-b-lt128 c =
    let low = seven c.loop-i.invariant _ c.if-b-lt128.true c.if-shift-eq63.false in
    record { fits = omega arith }

pub returns-then-b-lt128 : goal.returns-then-b-lt128
returns-then-b-lt128 c =
    last c.loop-i.invariant c.loop-i-test.true c.if-b-lt128.true c.if-shift-eq63.false
    (⊎_elim (λ w q. absurd (omega arith)) (λ w q. omega arith) c.else-b-eq0.either)

pub overflow_cast-v : goal.overflow_cast-v
overflow_cast-v c = omega (arith, c.type_inv.s c.loop-i.i)

pub overflow_add-v : goal.overflow_add-v
overflow_add-v c =
    let byte = (c.type_inv.s c.loop-i.i).fits in
    let low = seven c.loop-i.invariant (get_or c.args.s.now c.loop-i.i 0 - 128) (omega arith) c.if-shift-eq63.false in
    record { fits = omega arith }

pub loop-i-preserved : goal.loop-i-preserved
loop-i-preserved c =
    turn c.loop-i.invariant c.loop-i-test.true c.if-b-lt128.false (c.type_inv.s c.loop-i.i).fits c.if-shift-eq63.false

pub returns : goal.returns
returns c = cut_short c.loop-i.invariant c.loop-i-test.false
