use mathlib.Core.Path.{ap, ◌≡◌}
use Prim.Native.Nat.{◌*◌, ℕ, ◌+◌, ◌-◌}
use lib.ListN.{take, drop}
use Rattle.rules.specs.SlotFile.{bytes_of_slot}
use native.Mathlib.Omega.{arith}
use Rattle.slot_file.proofs.slot.slot_at.Goals as goal

pub returns : goal.returns
unfolding bytes_of_slot
returns c =
    let a = c.args in
    let whole : a.k * a.size + a.size - a.k * a.size ≡ a.size = omega arith in
    ap (λ (m : ℕ). take m (drop (a.k * a.size) a.heap.now)) whole
