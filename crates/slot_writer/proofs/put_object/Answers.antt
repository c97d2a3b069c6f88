use mathlib.Core.Path.{◌≡◌, ap}
use mathlib.Core.List.{◌++◌}
use lib.ListN.{length-append, length}
use Rattle.numbers.specs.LittleEndian.{le_bytes, le-length}
use Rattle.stores.specs.Runs.{made-behind}
use Rattle.checksum.specs.Checksum.{object_sum}
use Rattle.rules.specs.Object.{object_bytes}
use Prim.Native.Nat.{ℕ, ◌+◌}
use Rattle.slot_writer.proofs.put_object.Goals as goal

pub returns : goal.returns
unfolding object_bytes
returns c =
    let a = c.args in
    let body = a.body.now in
    let header = (le_bytes 4 (object_sum a.id body) ++ le_bytes 8 a.id) ++ le_bytes 8 (length body) in
    let size : length header ≡ 20 = simp (length-append, le-length) in
    made-behind a.at (a.at + 20) header body (ap (λ (k : ℕ). a.at + k) size)
    (rw (← c.object_sum-sum.ensures) c.put_header-behind.ensures)
    c.put_bytes.ensures
