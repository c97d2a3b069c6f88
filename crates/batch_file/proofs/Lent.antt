-- What a writer that was lent the heap's part from a place on made of the whole heap.
use mathlib.Core.Path.{◌≡◌, ap, ◌∙◌}
use mathlib.Core.List.{List}
use Prim.Native.Nat.{ℕ, ◌+◌, ◌-◌, ◌≤◌}
use native.Mathlib.Omega.{arith}
use lib.ListN.{length, take, drop, length-take, length-drop}
use borrow.Rule.Slice.PartMut.{put_mid}
use Rattle.numbers.specs.Parts.{front, put_front}
use Rattle.numbers.proofs.Lent.{lent}
use Rattle.rules.specs.Stores.{Store, made, stores_of}
use Rattle.rules.proofs.StoreLaws.{made-run, stores-length, stores-take}
use Rattle.stores.specs.Runs.{Made, made-put}

pub lent-made : (h ys bs : List ℕ) (at k left : ℕ) → at + length bs ≤ length h → Made k (stores_of 0 bs) (take (length h - at) (drop at h)) ys left
    → Made k (stores_of at bs) h (put_mid at (length h - at) h ys) left
lent-made h ys bs at k left fit m =
    let part = take (length h - at) (drop at h) in
    let size : length part ≡ length h - at = omega (arith, length-take (length h - at) (drop at h), length-drop at h) in
    let short = length-take k bs in
    let bytes : ys ≡ front (take k bs) part =
    m.heap
    ∙ ap (λ (run : List Store). made run part) (stores-take k 0 bs)
    ∙ made-run 0 (take k bs) part (omega arith)
    ∙ put_front part (take k bs) in
    made-put k at bs h (put_mid at (length h - at) h ys) left fit (lent h ys (take k bs) at (omega arith) bytes) (omega (arith, m.rest, stores-length 0 bs))
