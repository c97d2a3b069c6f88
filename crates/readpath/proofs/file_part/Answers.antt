use mathlib.Core.Path.{◌≡◌, ap, ◌∙◌}
use Prim.Native.Nat.{ℕ, ◌+◌, ◌-◌, ◌*◌}
use native.Mathlib.Omega.{arith}
use lib.ListN.{take, drop}
use Rattle.readpath.specs.ReadLaws.{file-part}
use Rattle.readpath.proofs.file_part.Goals as goal

pub returns : goal.returns
returns c =
    let a = c.args in
    let start = a.slot * a.slot_bytes + 64 in
    let size : start + a.l.file_size - start ≡ a.l.file_size = omega arith in
    ap (λ (n : ℕ). take n (drop start a.heap.now)) size ∙ file-part a.slot_bytes a.l a.slot a.heap.now c.requires
