use mathlib.Core.Path.{sym, ap, ◌∙◌}
use lib.Bits.{bit_xor}
use Rattle.checksum.specs.Checksum.{shifts}
use Rattle.checksum.proofs.Linear.{shifts-then}
use Rattle.checksum.proofs.eight.Goals as goal

pub returns : goal.returns
returns c =
    let a = c.args in
    c.out.ensures ∙ ap (shifts 32) c.four.ensures ∙ sym (shifts-then 32 32 (bit_xor a.r a.v))
