use Rattle.std.proofs.Common.{◌<◌, ◌≤◌, ◌∙◌, ◌++◌, ap, arith, List, ℕ, length-take, drop}
use native.Mathlib.Nat.{sub-zero}
use Rattle.numbers.specs.LittleEndian.{le_bytes, le-length}
use Rattle.numbers.specs.Parts.{put_front}
use Rattle.numbers.proofs.LittleEndianTurns.{put-turn, put-done}
use Rattle.numbers.proofs.Lent.{front-part}
use Rattle.numbers.proofs.little_endian.put.Goals as goal

pub loop-b-init : goal.loop-b-init
loop-b-init c = rw sub-zero (put_front _ _)

pub loop-b-preserved : goal.loop-b-preserved
loop-b-preserved c =
    let inside : c.loop-b.b-index < c.args.n = omega (arith, length-take c.args.n c.args.s.now) in
    put-turn _ _ _ _ inside (omega (arith, length-take c.args.n c.args.s.now, c.requires)) ∙ c.loop-b.invariant

pub returns : goal.returns
returns c =
    let s = c.args.s.now in
    let n = c.args.n in
    let all : n ≤ c.loop-b.b-index = omega (arith, length-take n s, c.requires) in
    ap (λ (l : List ℕ). l ++ drop n s) (put-done _ _ n c.loop-b.b-index c.loop-b.rest all c.loop-b.invariant)
    ∙ front-part s (le_bytes n c.args.x) n (le-length n c.args.x)
