-- The totals of a split are those of the files that come out: what 4, 5 and 7 are decided by.
use Rattle.std.specs.Prelude.{◌≡◌, ◌&&◌, ◌∷◌, ◌+◌, ◌^◌}
use Rattle.rules.specs.Base.{Bool, List, [], map, ℕ, length, ltb}
use Rattle.rules.specs.declared.Refusal.TheVariants.{SlotRoom, NoEmptySlot, PositionsSpent}
use Rattle.rules.specs.Refusal.{Test, ◌gives◌}
use Rattle.rules.specs.Ops.{Op, objects_of, file_bytes}
use Rattle.rules.specs.Maintenance.{Shard, Split}
use Rattle.gc_split.specs.declared.Totals.{Totals}
use Rattle.gc_split.specs.Tally.{Tally, totals_for}

-- "64 + file_size > S"
abbrev pub larges : ℕ → List Op → Bool
larges slot_size f = ltb slot_size (64 + length (file_bytes f))

-- "T + 1"
abbrev pub spans : List Op → ℕ
spans f = length (objects_of f) + 1

-- ---- a split and its tally
-- a shard's own numbers
abbrev pub shard_size : Shard → ℕ
shard_size s = s.size

abbrev pub shard_total : Shard → ℕ
shard_total s = length (objects_of s.ops)

abbrev pub shard_count : Shard → ℕ
shard_count s = length s.ops

-- the tally has the split's sizes, which are the object bytes', its counts and its fragments' totals
pub record Told (slot_size entries : ℕ) (s : Split) (t : Tally) : Type 0 where
  pub sizes : t.sizes ≡ map shard_size s.shards
  pub objects : t.sizes ≡ map shard_total s.shards
  pub counts : t.counts ≡ map shard_count s.shards
  pub totals : t.totals ≡ totals_for slot_size entries s.fragments

-- 4, 5 and 7, by the totals
unfoldable pub totals_tests : Totals → ℕ → ℕ → List Test
totals_tests t empty_ones base =
    t.large gives SlotRoom
    ∷ ltb empty_ones t.files gives NoEmptySlot
    ∷ (ltb 0 t.files && ltb (2 ^ 62) (base + t.positions)) gives PositionsSpent
    ∷ []
