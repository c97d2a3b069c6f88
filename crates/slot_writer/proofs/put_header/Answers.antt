use mathlib.Core.Path.{◌≡◌, ap}
use mathlib.Core.List.{◌++◌}
use lib.ListN.{length-append, length}
use Rattle.numbers.specs.LittleEndian.{le_bytes, le-length}
use Rattle.stores.specs.Runs.{made-behind}
use Prim.Native.Nat.{ℕ, ◌+◌}
use Rattle.slot_writer.proofs.put_header.Goals as goal

pub returns : goal.returns
returns c =
    let a = c.args in
    let A = le_bytes 4 a.sum in
    let B = le_bytes 8 a.id in
    let first_two : length (A ++ B) ≡ 12 = simp (length-append, le-length) in
    made-behind a.at (a.at + 12) (A ++ B) (le_bytes 8 a.size) (ap (λ (k : ℕ). a.at + k) first_two)
    (made-behind a.at (a.at + 4) A B (ap (λ (k : ℕ). a.at + k) (le-length 4 a.sum)) c.put_number-behind_sum.ensures c.put_number-behind_id.ensures)
    c.put_number.ensures
