use Rattle.std.proofs.Common.{◌≡◌, ◌∙◌, length, arith}
use lib.Seq.{take-length}
use Rattle.numbers.specs.Parts.{front}
use Rattle.byte_parts.proofs.copy.Goals as goal

pub returns : goal.returns
unfolding front
returns c =
    let all : c.loop-i.i ≡ length c.args.from.now = omega arith in
    c.loop-i.invariant.1 ∙ rw (all, take-length)
