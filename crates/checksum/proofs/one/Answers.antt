use Rattle.std.proofs.Common.{ℕ, ◌/◌, ◌^◌, ap, ap₂, ◌∙◌, bit_xor}
use Rattle.checksum.proofs.Linear.{halves-out}
use Rattle.checksum.proofs.one.Goals as goal

pub returns : goal.returns
returns c =
    let w = bit_xor c.args.r c.args.b in
    ap (λ (x : ℕ). bit_xor x (w / 2 ^ 8)) (ap₂ bit_xor c.half_out.ensures c.half_out-2.ensures) ∙ halves-out 1 w
