-- What a group moves comes out in its files: no operation is lost between the shards.
use Rattle.std.specs.Prelude.{◌≡◌, ◌⊎◌}
use Rattle.rules.specs.Base.{true, List, ℕ}
use Rattle.rules.specs.BaseLaws.{Some}
use Rattle.rules.specs.Ops.{Op}
use Rattle.rules.specs.Maintenance.{Shard, Split}
use Rattle.maintenance_theory.specs.Tally.{heard_in}

-- ---- the split
-- an operation on x is in the shard, and in the file
abbrev pub InShard : ℕ → Shard → Type 0
InShard x c = heard_in c.ops x ≡ true

abbrev pub InFile : ℕ → List Op → Type 0
InFile x f = heard_in f x ≡ true

-- in a shard or a fragment
abbrev pub InSplit : ℕ → Split → Type 0
InSplit x s = Some (InShard x) s.shards ⊎ Some (InFile x) s.fragments
