use mathlib.Core.Path.{ap}
use Prim.Native.Nat.{ℕ}
use lib.Dec.{eqb}
use Rattle.disk_location.proofs.Laws.{low_bit}
use Rattle.disk_location.proofs.odd.Goals as goal

pub returns : goal.returns
returns c = ap (λ (n : ℕ). eqb n 1) (low_bit c.args.raw)
