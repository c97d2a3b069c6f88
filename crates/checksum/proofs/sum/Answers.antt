use mathlib.Core.Path.{ap}
use Prim.Native.Nat.{ℕ, ◌-◌, ◌^◌}
use Rattle.checksum.specs.Checksum.{crc32}
use Rattle.checksum.proofs.sum.Goals as goal

pub returns : goal.returns
unfolding crc32
returns c = ap (λ (n : ℕ). 2 ^ 32 - 1 - n) c.feed.ensures
