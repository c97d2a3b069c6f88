-- Where everything that a group found stands: a place for each entry of the table that is moved.
use Rattle.std.specs.Prelude.{◌≡◌, ◌≤◌, ◌<◌, ◌^◌, Ok}
use Rattle.numbers.specs.LittleEndian.{Bytes}
use Rattle.rules.specs.Base.{List, ℕ, length, get_or, each}
use Rattle.rules.specs.declared.Record.{Record}
use Rattle.rules.specs.Refusal.{decide}
use Rattle.rules.specs.Ops.{settled}
use Rattle.rules.specs.Layout.{Table, table_ids, used_entries}
use Rattle.location_table.specs.Tables.{Formed}
use Rattle.gc_candidates.specs.Plan.{planned}
use Rattle.gc_group.specs.Source.{source, Ready}
use Rattle.gc_group.specs.Checks.{group_checks}
use Rattle.gc_group.specs.Marks.{found_at}
use Rattle.gc_files.specs.Places.{placed_ops, Whole, Standing, AllStand, OfUsed, InSlot}

-- what is known of a group whose checks are clear, its files and its table, where there are n marks
pub record Checked (limit size : ℕ) (heap : List ℕ) (records : List Record) (plan : List ℕ) (generation : ℕ) (table : Table) (n : ℕ) : Type 0 where
  pub low : 64 ≤ size
  pub high : size ≤ 2 ^ 20
  pub ready : Ready size (length heap) records plan generation
  pub clear : decide (group_checks limit (source size heap records (used_entries table)) (planned plan generation)) ≡ Ok tt
  pub formed : Formed table
  pub wide : length (table_ids table) ≤ n
  pub bytes : Bytes heap

-- an object lies whole in a slot of the group, behind its label
abbrev pub Kept : ℕ → List ℕ → List ℕ → ℕ → ℕ → Type 0
Kept size heap plan generation place = Whole heap place × ((k : ℕ) × (get_or plan k 0 ≡ generation) × (k < 256) × InSlot size heap k place)

-- each object does
abbrev pub InGroup : ℕ → List ℕ → List ℕ → ℕ → List ℕ → Type 0
InGroup size heap plan generation places = (i : ℕ) → 1 < get_or places i 0 → Kept size heap plan generation (get_or places i 0)

-- the places of a group: they have all that it found, of used entries alone, and each object lies whole in a slot of the group, its bytes as they
-- are written for its entry's id
abbrev pub GroupPlaced : ℕ → List ℕ → List Record → List ℕ → ℕ → Table → List ℕ → Type 0
GroupPlaced size heap records plan generation table places =
    (placed_ops heap (table_ids table) places ≡ settled (each (found_at (source size heap records (used_entries table))) (planned plan generation)))
    × (OfUsed table places × (Standing heap places × (InGroup size heap plan generation places × AllStand heap (table_ids table) places)))
