-- The walk over the operations that count: what of them is still to come.
use Rattle.std.specs.Prelude.{◌≡◌, List, [], ◌∷◌, ◌⊎◌, ℕ, suc, ◌+◌, ◌-◌, ◌≤◌, ◌<◌, eqb, length, drop, get_or, None, Some}
use Rattle.numbers.specs.Choice.{pick}
use Rattle.rules.specs.Batch.{Parsed, parsed, malformed, operation_at}
use Rattle.rules.specs.Ops.{Op, settled}
use Rattle.batch.specs.Reading.{op_in, ops_from, ops_in}
use Rattle.batch.specs.Order.{from_id}
use Rattle.batch.specs.declared.Cursor.{Cursor}
use Rattle.batch.specs.declared.Cursor.TheVariants.{InOrder, All, Listed}
use Rattle.batch.specs.Answers.{Step}

-- the lowest id that is still to come
abbrev pub floor_of : Cursor → ℕ
floor_of (InOrder at) = 0
floor_of All = 0
floor_of (Listed k passed) = suc passed

-- the operations that count, on ids from a floor on
unfoldable pub by_id : List ℕ → ℕ → List Op
by_id s floor = from_id floor (settled (ops_in s))

-- an operation, then what comes behind it
abbrev pub and_then : Parsed → (Op → List Op) → List Op
and_then malformed rest = []
and_then (parsed o next) rest = o ∷ rest o

-- the operations that an order lists by their places, counted from 1: up to a place 0, or else, past the last, the ids above it
unfoldable pub listed_from : List ℕ → ℕ → List ℕ → List Op
listed_from s passed [] = by_id s (suc passed)
listed_from s passed (l ∷ ls) = pick (eqb l 0) [] (and_then (operation_at s (l - 1)) (λ o. listed_from s o.id ls))

-- what of the operations that count is still to come: the rest of the batch where its ids ascend, else what the order lists from a place on
abbrev pub left : List ℕ → List ℕ → Cursor → List Op
left s order (InOrder at) = ops_from s at
left s order All = by_id s 0
left s order (Listed k passed) = listed_from s passed (drop k order)

-- from here on no step changes the order: ids ascend, or its last place is not used, and the walk ends before it
abbrev pub Keeps : List ℕ → Cursor → Type 0
Keeps order (InOrder at) = Unit {0}
Keeps order All = ⊥
Keeps order (Listed k passed) = (k < length order) × (get_or order (length order - 1) 0 ≡ 0)

-- where each walk begins: all that count are still to come, and so they are behind a walk
pub record Begins (s : List ℕ) (order : List ℕ) (cursor : Cursor) : Type 0 where
  pub all : left s order cursor ≡ settled (ops_in s)
  pub again : (cursor ≡ All) ⊎ Keeps order cursor

-- a step: the next operation, then what is left
abbrev pub step_in : List ℕ → List ℕ → Step → List Op
step_in s order (Some (o, cursor)) = op_in s o ∷ left s order cursor
step_in s order None = []

-- its body lies within the batch
abbrev pub StepInside : List ℕ → Step → Type 0
StepInside s (Some (o, cursor)) = o.start + o.len ≤ length s
StepInside s None = Unit {0}

-- the order is as it was, and stays so
abbrev pub Kept : List ℕ → List ℕ → Step → Type 0
Kept order after (Some (o, cursor)) = (after ≡ order) × Keeps after cursor
Kept order after None = after ≡ order
