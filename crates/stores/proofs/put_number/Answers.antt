use mathlib.Core.Path.{◌≡◌, ap, ◌∙◌}
use lib.ListN.{take}
use Rattle.numbers.specs.LittleEndian.{le_bytes, le-length}
use Rattle.numbers.specs.Parts.{put_at}
use Rattle.numbers.proofs.Lent.{lent}
use Rattle.stores.specs.Runs.{made-put}
use Rattle.stores.proofs.FirstBytes.{le-lesser}
use Prim.Native.Nat.{ℕ}
use native.Mathlib.Omega.{arith}
use Rattle.stores.proofs.put_number.Goals as goal

pub returns : goal.returns
returns c =
    let a = c.args in
    let h = a.heap.now in
    let many = c.lesser-many.result in
    let small = c.lesser-many.ensures in
    let written : le_bytes many a.x ≡ take a.left (le_bytes a.n a.x) = ap (λ (m : ℕ). le_bytes m a.x) small ∙ le-lesser a.n a.left a.x in
    let fit = c.requires in
    made-put a.left a.at (le_bytes a.n a.x) h _ _ (omega (arith, le-length a.n a.x))
    (lent h _ (le_bytes many a.x) a.at (omega (arith, le-length many a.x)) c.put.ensures ∙ ap (put_at h a.at) written)
    (omega (arith, le-length a.n a.x))
