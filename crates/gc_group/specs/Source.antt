-- What a group is read from: the slots, their records and the table; and what is known of them once refusal 1 is decided.
use Rattle.std.specs.Prelude.{◌≡◌, ◌≤◌, ◌<◌, ◌+◌, ◌-◌, ◌*◌, ◌^◌}
use Rattle.rules.specs.Base.{List, ℕ, length, get_or}
use Rattle.rules.specs.declared.Entry.{Entry}
use Rattle.rules.specs.declared.Label.{Label}
use Rattle.rules.specs.declared.Record.{Record}
use Rattle.rules.specs.SlotFile.{bytes_of_slot}
use Rattle.rules.specs.FileMap.{record_at}
use Rattle.rules.specs.World.{World, records_of, mappings}

-- slots of that many bytes, their records, and the table's used entries
pub record Source : Type 0 where
  pub size : ℕ
  pub heap : List ℕ
  pub records : List Record
  pub table : List Entry

-- the same, as parameters give it
abbrev pub source : ℕ → List ℕ → List Record → List Entry → Source
source size heap records table = record { size = size; heap = heap; records = records; table = table }

-- a call's world as it stands
abbrev pub source_in : World → Source
source_in w = source w.settings.slot_bytes w.heap (records_of w) (mappings w)

-- slot k's label and bytes
abbrev pub file_at : Source → ℕ → Label
file_at s k = (record_at s.records k).label

abbrev pub bytes_at : Source → ℕ → List ℕ
bytes_at s k = bytes_of_slot s.size s.heap k

-- ---- what refusal 1 leaves of a label: its file lies in a slot of that size, its positions below 2^63
pub record Lies (size : ℕ) (l : Label) : Type 0 where
  pub offset : l.trailer_offset ≤ l.file_size
  pub inside : l.file_size ≤ size - 64
  pub positions : l.lsn + l.trailer_offset < 2 ^ 63

-- what a group's loops over the slots ask for
pub record Ready (size heap_len : ℕ) (records : List Record) (plan : List ℕ) (generation : ℕ) : Type 0 where
  pub slots : length plan ≡ 256
  pub files : (k : ℕ) → Lies size (record_at records k).label
  pub standing : (k : ℕ) → get_or plan k 0 ≡ generation → k * size + size ≤ heap_len
