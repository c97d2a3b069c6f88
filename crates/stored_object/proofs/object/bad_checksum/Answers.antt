use mathlib.Core.Bool.{not}
use lib.Dec.{eqb}
use Rattle.checksum.specs.Checksum.{object_sum}
use mathlib.Core.Path.{◌≡◌, sym, ap, ap₂, ◌∙◌}
use mathlib.Core.List.{List}
use lib.ListN.{take, drop, length-drop, length}
use lib.Seq.{drop-drop}
use Rattle.rules.specs.Object.{stored_at, bad_checksum}
use Rattle.stored_object.specs.declared.Header.{Header}
use Rattle.numbers.specs.LittleEndian.{le_value}
use Prim.Native.Nat.{ℕ, ◌+◌, ◌-◌, ◌≤◌}
use native.Mathlib.Omega.{arith}
use Rattle.stored_object.proofs.object.bad_checksum.Goals as goal

-- the object lies within the bytes
fits : (x : goal.After-shared_slice_known-1) → let a = x.args in a.position + 20 + a.h.size ≤ length a.bytes.now
unfolding stored_at
fits x =
    let a = x.args in
    let room : a.h.room ≡ length (drop a.position a.bytes.now) = ap (λ (h : Header). h.room) x.requires.h_value in
    omega (arith, x.requires.size_bound, length-drop a.position a.bytes.now)

pub overflow_add-start : goal.overflow_add-start
overflow_add-start c = omega (arith, fits c)

pub overflow_add-end : goal.overflow_add-end
overflow_add-end c = omega (arith, fits c)

pub slice_bounds-object_sum-end : goal.slice_bounds-object_sum-end
slice_bounds-object_sum-end c = omega (arith, fits c)

pub returns : goal.returns
unfolding stored_at bad_checksum
returns c =
    let s = c.args.bytes.now in
    let h = c.args.h in
    let at = c.args.position in
    let given = c.requires.h_value in
    let many : at + 20 + h.size - (at + 20) ≡ h.size = omega arith in
    let body : take (at + 20 + h.size - (at + 20)) (drop (at + 20) s) ≡ take (le_value (take 8 (drop 12 (drop at s)))) (drop 20 (drop at s)) =
    ap₂ (λ (n : ℕ) (l : List ℕ). take n l) (many ∙ ap (λ (x : Header). x.size) given) (sym (drop-drop 20 at s)) in
    ap₂ (λ (a b : ℕ). not (eqb a b)) (ap (λ (x : Header). x.checksum) given)
    (c.object_sum-right.ensures ∙ ap₂ object_sum (ap (λ (x : Header). x.id) given) body)
