use mathlib.Core.Path.{ap}
use Rattle.numbers.specs.LittleEndian.{le_bytes, le-length}
use Rattle.stores.specs.Runs.{made-behind}
use Prim.Native.Nat.{ℕ, ◌+◌}
use Rattle.trailer.proofs.write.put_head.Goals as goal

pub returns : goal.returns
returns c =
    let a = c.args in
    made-behind a.at (a.at + 4) (le_bytes 4 a.sum) (le_bytes 8 a.count) (ap (λ (k : ℕ). a.at + k) (le-length 4 a.sum)) c.put_number-behind.ensures c.put_number.ensures
