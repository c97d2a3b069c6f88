use mathlib.Core.Path.{sym}
use lib.ListN.{length-replicate}
use Prim.Native.Nat.{ℕ}
use Rattle.bench.proofs.heap_bytes.Goals as goal

pub returns : goal.returns
returns c = sym (length-replicate {0} {A = ℕ} 1048576 0)
