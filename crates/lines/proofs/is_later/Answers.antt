use mathlib.Core.Path.{ap₂}
use Prim.Native.Nat.{ℕ}
use lib.Dec.{ltb}
use Rattle.lines.proofs.is_later.Goals as goal

pub returns : goal.returns
returns c = ap₂ (λ (m n : ℕ). ltb m n) c.masked.ensures c.masked-2.ensures
