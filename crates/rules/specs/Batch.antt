-- "Batch bytes: id in seven-bit groups; tag 0 (delete) or 1 (put); for a put its length in groups and the body."
use Rattle.std.specs.Prelude.{◌∷◌, ◌+◌, ◌-◌}
use Rattle.rules.specs.Base.{Bool, true, false, List, [], ℕ, zero, suc, length, take, drop, get_or, leb, eqb, pick, any}
use Rattle.numbers.specs.Groups.{number_in, saying}
use Rattle.rules.specs.Ops.{Content, put, delete, Op}

-- an operation and the position behind it
pub data Parsed : Type 0 where
  malformed : Parsed
  parsed : Op → ℕ → Parsed

-- "for a put its length in groups and the body"
unfoldable pub put_operation : List ℕ → ℕ → ℕ → Parsed
put_operation s id at =
    saying malformed (number_in 10 s at) λ size start.
    pick (leb size (length s - start)) (parsed (record { id = id; content = put (take size (drop start s)) }) (start + size)) malformed

-- "id in seven-bit groups; tag 0 (delete) or 1 (put)"
unfoldable pub operation_at : List ℕ → ℕ → Parsed
operation_at s at =
    saying malformed (number_in 10 s at) λ id tag.
    pick (leb (length s) tag) malformed
    (pick (eqb (get_or s tag 0) 0) (parsed (record { id = id; content = delete }) (suc tag))
    (pick (eqb (get_or s tag 0) 1) (put_operation s id (suc tag)) malformed))

-- a whole batch
pub data Batch : Type 0 where
  not_as_above : Batch
  operations : List Op → Batch

-- an operation before the rest
abbrev pub before : Op → Batch → Batch
before o not_as_above = not_as_above
before o (operations os) = operations (o ∷ os)

-- an operation, then the rest from behind it
abbrev pub onward : Parsed → (ℕ → Batch) → Batch
onward malformed rest = not_as_above
onward (parsed o at) rest = before o (rest at)

-- the operations from `at` on; k bounds how many
unfoldable pub batch_from : ℕ → List ℕ → ℕ → Batch
batch_from zero s at = pick (leb (length s) at) (operations []) not_as_above
batch_from (suc k) s at = pick (leb (length s) at) (operations []) (onward (operation_at s at) (batch_from k s))

-- the whole of the bytes
unfoldable pub batch_in : List ℕ → Batch
batch_in s = batch_from (length s) s 0

-- "2 batch bytes not as above"
abbrev pub is_malformed : Batch → Bool
is_malformed not_as_above = true
is_malformed (operations os) = false

-- its operations, in order
abbrev pub ops_of : Batch → List Op
ops_of not_as_above = []
ops_of (operations os) = os

-- "a put of max_object_size or more"
abbrev pub too_large : ℕ → Content → Bool
too_large limit (put body) = leb limit (length body)
too_large limit delete = false

-- "3 a put of max_object_size or more, overridden ones included"
unfoldable pub any_too_large : ℕ → List Op → Bool
any_too_large limit os = any (λ (o : Op). too_large limit o.content) os
