-- The files that come out of a group: each is a selection of what is moved, in order, and not empty.
use Rattle.std.specs.Prelude.{◌<◌, ◌∷◌}
use Rattle.rules.specs.Base.{List, [], length}
use Rattle.rules.specs.BaseLaws.{All}
use Rattle.rules.specs.Ops.{Op}
use Rattle.rules.specs.Maintenance.{Shard, Split}

-- a selection of these operations, in order
pub data Sub : List Op → List Op → Type 0 where
  sub-nil : Sub [] []
  sub-keep : {o : Op} {a b : List Op} → Sub a b → Sub (o ∷ a) (o ∷ b)
  sub-skip : {o : Op} {a b : List Op} → Sub a b → Sub a (o ∷ b)

-- ---- lists with one element changed
-- ---- the split, of the operations seen so far
-- a file of these: a selection that is not empty
abbrev pub PartOf : List Op → List Op → Type 0
PartOf ops file = Sub file ops × (0 < length file)

-- a shard of these: a selection, and a size over 0 only where it has entries
abbrev pub ShardOf : List Op → Shard → Type 0
ShardOf ops shard = Sub shard.ops ops × (0 < shard.size → 0 < length shard.ops)

-- shards and fragments of these operations
pub record SplitOf (ops : List Op) (s : Split) : Type 0 where
  pub shards : All (ShardOf ops) s.shards
  pub fragments : All (PartOf ops) s.fragments
