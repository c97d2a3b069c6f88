-- Request P6: what each call leaves of the marks. "clear on writing, set by a sync call, set on reopening; an empty record has it clear".
use Rattle.std.specs.Prelude.{◌≡◌, ◌⊎◌, ◌<◌, ◌≤◌, ◌+◌, ◌-◌}
use Rattle.rules.specs.Base.{ℕ}
use Rattle.rules.specs.Refusal.{after}
use Rattle.rules.specs.FileMap.{empty_label, record_at}
use Rattle.rules.specs.Write.{written}
use Rattle.rules.specs.World.{World, records_of}

-- ---- every call but sync and reopening: slot by slot the file stays with its mark; or a file was written, its lsn from the next position
-- before the call up to the one after it (bit: the batch bit, or 0), and its mark is clear; or the record was emptied
abbrev pub Carried : ℕ → World → World → ℕ → Type 0
Carried bit w v k =
    (((record_at (records_of v) k).label ≡ (record_at (records_of w) k).label) × ((record_at (records_of v) k).synced ≡ (record_at (records_of w) k).synced))
    ⊎ (((w.state.next_position + bit ≤ (record_at (records_of v) k).label.lsn) × ((record_at (records_of v) k).label.lsn < v.state.next_position + bit)
    × ((record_at (records_of v) k).synced ≡ 0))
    ⊎ (((record_at (records_of v) k).label ≡ empty_label) × ((record_at (records_of v) k).synced ≡ 0)))

-- of every slot, and positions only grow
pub record Carries (bit : ℕ) (w v : World) : Type 0 where
  pub grows : w.state.next_position ≤ v.state.next_position
  pub each : (k : ℕ) → Carried bit w v k
