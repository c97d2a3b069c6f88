-- Request P8: "pruning is one store per file": after each of them a store of the invariant stands, and nothing else is said of any id.
use Rattle.std.specs.Prelude.{◌≡◌, ◌<◌, ◌*◌}
use Rattle.rules.specs.Base.{ℕ, set}
use Rattle.rules.specs.SlotFile.{empty}
use Rattle.rules.specs.FileMap.{empty_record}
use Rattle.rules.specs.World.{World, records_of, slots_of, state_with}
use Rattle.theory.specs.Losing.{live_at}

-- slot k emptied: its first label byte 0, its record empty
unfoldable pub emptied_one : World → ℕ → World
emptied_one w k = record {
  settings = w.settings;
  state = state_with w.state (set (records_of w) k empty_record) w.state.next_position;
  claims = w.claims;
  heap = set w.heap (k * w.settings.slot_bytes) 0;
  table = w.table;
}

-- a slot of the heap whose record has no live entry
abbrev pub Lifeless : World → ℕ → Type 0
Lifeless w k = (k < slots_of w) × (live_at (records_of w) k ≡ 0)
