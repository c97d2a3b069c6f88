use Rattle.std.proofs.Common.{ℕ, ◌/◌, ◌^◌, ap, ap₂, ◌∙◌, bit_xor}
use Rattle.checksum.proofs.Linear.{halves-out}
use Rattle.checksum.proofs.out.Goals as goal

pub returns : goal.returns
returns c =
    let two = ap₂ bit_xor c.half_out.ensures c.half_out-2.ensures in
    let four = ap₂ bit_xor (ap₂ bit_xor two c.half_out-3.ensures) c.half_out-4.ensures in
    let six = ap₂ bit_xor (ap₂ bit_xor four c.half_out-5.ensures) c.half_out-6.ensures in
    let eight = ap₂ bit_xor (ap₂ bit_xor six c.half_out-7.ensures) c.half_out-8.ensures in
    ap (λ (x : ℕ). bit_xor x (c.args.w / 2 ^ 32)) eight ∙ halves-out 7 c.args.w
