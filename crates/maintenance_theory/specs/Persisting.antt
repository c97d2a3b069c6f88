-- While a group is rewritten every other generation's group stays, by a mark that is not above the next position.
use Rattle.std.specs.Prelude.{◌≡◌, ◌⊎◌, ◌≤◌}
use Rattle.rules.specs.Base.{ℕ}
use Rattle.disk_location.specs.Locations.{masked_of}
use Rattle.rules.specs.FileMap.{record_at}
use Rattle.rules.specs.World.{World, records_of}

-- ---- labels
-- slot k has the label that it had, or one of a file at or above the next position as it was
abbrev pub LabelKept : World → World → ℕ → Type 0
LabelKept w v k = ((record_at (records_of v) k).label ≡ (record_at (records_of w) k).label) ⊎ (w.state.next_position ≤ masked_of (record_at (records_of v) k).label.lsn)

-- ---- what adding files leaves
-- the numbers that stay, the next position that does not fall, and the labels
pub record Grown (w v : World) : Type 0 where
  pub settings : v.settings ≡ w.settings
  pub claims : v.claims ≡ w.claims
  pub entries : v.state.table_len ≡ w.state.table_len
  pub next : w.state.next_position ≤ v.state.next_position
  pub labels : (k : ℕ) → LabelKept w v k
