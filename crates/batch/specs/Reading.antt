-- An operation as numbers, read in the batch that it points into; and the operations of a batch by position.
use Rattle.std.specs.Prelude.{Bool, false, List, [], ◌∷◌, ℕ, zero, suc, ◌+◌, ◌≤◌, leb, length, take, drop, None, Some}
use Rattle.numbers.specs.Choice.{pick}
use Rattle.rules.specs.Ops.{Op, put, delete}
use Rattle.rules.specs.Batch.{Parsed, parsed, malformed, operation_at}
use Rattle.batch.specs.declared.Operation.{Operation}
use Rattle.batch.specs.Answers.{Parse}

-- a delete, or a put of the piece of the batch that the numbers name
abbrev pub op_in : List ℕ → Operation → Op
op_in s o = record { id = o.id; content = pick o.delete delete (put (take o.len (drop o.start s))) }

-- what was read, as document 01's definition has it
abbrev pub parsed_in : List ℕ → Parse → Parsed
parsed_in s (Some (o, next)) = parsed (op_in s o) next
parsed_in s None = malformed

-- the body lies within the batch
abbrev pub Inside : List ℕ → Parse → Type 0
Inside s (Some (o, next)) = o.start + o.len ≤ length s
Inside s None = Unit {0}

-- "a put of max_object_size or more", by the numbers
abbrev pub oversize : ℕ → Operation → Bool
oversize limit o = pick o.delete false (leb limit o.len)

-- an operation, then those from behind it
abbrev pub followed : Parsed → (ℕ → List Op) → List Op
followed malformed rest = []
followed (parsed o next) rest = o ∷ rest next

-- at most k operations from `at` on, up to the first place where none stands
unfoldable pub walked : ℕ → List ℕ → ℕ → List Op
walked zero s at = []
walked (suc k) s at = followed (operation_at s at) (walked k s)

-- all of them: each takes a byte at least
unfoldable pub ops_from : List ℕ → ℕ → List Op
ops_from s at = walked (suc (length s)) s at

-- of the whole batch
abbrev pub ops_in : List ℕ → List Op
ops_in s = ops_from s 0
