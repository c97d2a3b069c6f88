-- Operations, and the file that they make: lengths, positions, and that it is read back.
use Rattle.std.specs.Prelude.{◌≡◌, ◌⊎◌, ◌≤◌, ◌<◌, ◌∷◌, ◌++◌, ◌+◌, ◌-◌, ◌^◌}
use Rattle.rules.specs.Base.{List, [], ℕ, suc, length}
use Rattle.disk_location.specs.Locations.{position_of, raw_of}
use Rattle.rules.specs.BaseLaws.{All}
use Rattle.rules.specs.Object.{Stored}
use Rattle.rules.specs.ObjectLaws.{stored_object}
use Rattle.rules.specs.Ops.{Content, put, delete, Op, is_delete, size_of, objects_of}

-- ids strictly rising, from a least one on
pub data RisingOps : ℕ → List Op → Type 0 where
  ops-end : {f : ℕ} → RisingOps f []
  ops-rise : {f : ℕ} {o : Op} {os : List Op} → f ≤ o.id → RisingOps (suc o.id) os → RisingOps f (o ∷ os)

-- ids of 64 bits
abbrev pub IdsFit : List Op → Type 0
IdsFit ops = All (λ (o : Op). o.id < 2 ^ 64) ops

-- the operation on x is in the list, its object bytes from position p on, where the first one's are at q
abbrev pub Stands : ℕ → List Op → ℕ → Content → ℕ → Type 0
Stands q [] x c p = ⊥
Stands q (o ∷ os) x c p = ((o.id ≡ x) × (o.content ≡ c) × (q ≡ p)) ⊎ Stands (q + size_of o.content) os x c p

-- an entry, and the operation that it is of
pub record Of (q : ℕ) (ops : List Op) (x l : ℕ) : Type 0 where
  pub content : Content
  pub stands : Stands q ops x content (position_of l)
  pub location : l ≡ raw_of (position_of l) (is_delete content)

-- ---- objects
-- the objects that stand in the object bytes of these operations, from a position on
abbrev pub stored_here : ℕ → ℕ → Content → ℕ → List Stored
stored_here position id (put body) behind = stored_object position id body behind ∷ []
stored_here position id delete behind = []

-- operation by operation
unfoldable pub stored_of : ℕ → List Op → List Stored
stored_of position [] = []
stored_of position (o ∷ os) = stored_here position o.id o.content (length (objects_of os)) ++ stored_of (position + size_of o.content) os
