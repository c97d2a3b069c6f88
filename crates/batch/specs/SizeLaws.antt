-- The size of an operation, and T of what is left of a walk.
use Rattle.std.specs.Prelude.{◌≡◌, refl, Bool, true, false, List, [], ℕ, ◌+◌, ◌≤◌, length, take, drop}
use Rattle.std.proofs.Common.{ap, ◌∙◌, arith}
use Rattle.numbers.specs.Choice.{pick}
use Rattle.rules.specs.Ops.{Op, put, delete, size_of, objects_of}
use Rattle.rules.proofs.OpsLaws.{objects-nil, objects-length}
use Rattle.batch.specs.Reading.{op_in}
use Rattle.batch.specs.ReadingLaws.{piece-length}
use Rattle.batch.specs.Sizes.{size_in}
use Rattle.batch.specs.WalkLaws.{Stepped}
use Rattle.batch.specs.declared.Operation.{Operation}

-- "an object adds 20 + length, a delete 0", by its numbers
pub size_is : (s : List ℕ) (o : Operation) → o.start + o.len ≤ length s → size_of (op_in s o).content ≡ size_in o
size_is s o h = go o.delete
  where
    go : (d : Bool) → size_of (pick d delete (put (take o.len (drop o.start s)))) ≡ pick d 0 (20 + o.len)
    go true = refl
    go false = ap (λ (n : ℕ). 20 + n) (piece-length s o.start o.len h)

pub size-bound : (o : Operation) → size_in o ≤ 20 + o.len
size-bound o = go o.delete
  where
    go : (d : Bool) → pick d 0 (20 + o.len) ≤ 20 + o.len
    go true = omega arith
    go false = omega arith

-- T of what is left, one operation behind; and at the end
pub total-next : {s : List ℕ} {ops rest : List Op} {o : Operation} → Stepped s ops o rest → length (objects_of ops) ≡ size_in o + length (objects_of rest)
total-next {s} {ops} {rest} {o} e =
    ap (λ (os : List Op). length (objects_of os)) e.next
    ∙ objects-length (op_in s o) rest
    ∙ ap (λ (n : ℕ). n + length (objects_of rest)) (size_is s o e.inside)

pub total-end : {ops : List Op} → ops ≡ [] → length (objects_of ops) ≡ 0
total-end e = ap (λ (os : List Op). length (objects_of os)) e ∙ ap length objects-nil
