use Rattle.std.proofs.Common.{ℕ, ◌+◌, ◌-◌, ◌/◌, refl, sym, ap, ◌∙◌, arith}
use native.Mathlib.Nat.{sub-zero}
use Rattle.numbers.specs.LittleEndian.{le_bytes, le-none}
use Rattle.checksum.specs.Checksum.{crc_from, crc-nil}
use Rattle.checksum.proofs.ByteTurns.{eight-number, number-turn}
use Rattle.checksum.proofs.feed_number.Goals as goal

pub returns-then-n-eq8 : goal.returns-then-n-eq8
returns-then-n-eq8 c =
    let a = c.args in
    c.eight.ensures ∙ eight-number a.r a.v c.ranges.v.fits ∙ ap (λ (n : ℕ). crc_from a.r (le_bytes n a.v)) (sym c.if-n-eq8.true)

pub loop-i-init : goal.loop-i-init
loop-i-init c = rw sub-zero refl

pub loop-i-preserved : goal.loop-i-preserved
loop-i-preserved c =
    let l = c.loop-i in
    let n = c.args.n in
    ap (λ (x : ℕ). crc_from x (le_bytes (n - (l._i + 1)) (l.rest / 256))) c.one-x.ensures ∙ number-turn n l._i l.rest l.x c.loop-i-test.true ∙ l.invariant

pub returns : goal.returns
returns c =
    let l = c.loop-i in
    let end = le-none (c.args.n - l._i) l.rest (omega arith) in
    sym (crc-nil l.x) ∙ ap (crc_from l.x) (sym end) ∙ l.invariant
