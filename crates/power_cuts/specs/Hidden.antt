-- Request P8: "file, then label bytes 2 to 64, then label byte 1": until the last store the file is not seen, and the slots show what they showed.
use Rattle.std.specs.Prelude.{◌<◌, ◌≤◌, ◌++◌, ◌+◌}
use Rattle.rules.specs.Base.{List, ℕ, suc, drop}
use Rattle.rules.specs.Stores.{Store, stores_of}
use Rattle.rules.specs.World.{World}

-- ---- stores between two places
-- a store from low on, below high
abbrev pub Within : ℕ → ℕ → Store → Type 0
Within low high s = (low ≤ s.at) × (s.at < high)

-- ---- the store with other bytes that no slot shows
abbrev pub with_heap : World → List ℕ → World
with_heap w heap = record { settings = w.settings; state = w.state; claims = w.claims; heap = heap; table = w.table }

-- ---- a file's run
-- file, then label bytes 2 to 64: what is stored before label byte 1
abbrev pub before_last : ℕ → List ℕ → List ℕ → List Store
before_last start label file = stores_of (start + 64) file ++ stores_of (suc start) (drop 1 label)
