use mathlib.Core.Path.{◌≡◌, ap, ◌∙◌}
use lib.ListN.{take, length-take}
use Rattle.numbers.specs.Parts.{put_at}
use Rattle.numbers.proofs.Lent.{lent}
use Rattle.stores.specs.Runs.{made-put}
use Rattle.stores.proofs.FirstBytes.{take-lesser}
use Prim.Native.Nat.{ℕ}
use native.Mathlib.Omega.{arith}
use Rattle.stores.proofs.put_bytes.Goals as goal

pub returns : goal.returns
returns c =
    let a = c.args in
    let h = a.heap.now in
    let many = c.lesser-many.result in
    let small = c.lesser-many.ensures in
    let fit = c.requires in
    let written : take many a.from.now ≡ take a.left a.from.now = ap (λ (m : ℕ). take m a.from.now) small ∙ take-lesser a.left a.from.now in
    made-put a.left a.at a.from.now h _ _ fit
    (lent h _ (take many a.from.now) a.at (omega (arith, length-take many a.from.now)) c.copy.ensures ∙ ap (put_at h a.at) written)
    (omega arith)
