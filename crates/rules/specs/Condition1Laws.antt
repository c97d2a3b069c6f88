-- What a call knows once 1 does not refuse it.
use Rattle.std.specs.Prelude.{◌≡◌, ◌≤◌, ◌<◌}
use Rattle.rules.specs.Base.{true, false, ℕ}
use Rattle.rules.specs.Types.{Settings, Record, State}
use Rattle.rules.specs.Settings.{slots_in}
use Rattle.rules.specs.SettingsLaws.{InRanges, HeapInRange}
use Rattle.rules.specs.LabelLaws.{InBounds}
use Rattle.rules.specs.Layout.{Table, capacity_of, in_form}
use Rattle.rules.specs.LayoutLaws.{LengthsInRange}
use Rattle.rules.specs.FileMap.{is_empty, record_at}

-- settings and buffer lengths inside the ranges: what a reopening asks for
pub record InLimits (s : Settings) (heap_len : ℕ) (b : Table) : Type 0 where
  pub settings : InRanges s
  pub heap : HeapInRange s heap_len
  pub table : LengthsInRange b

-- a record that 1 lets pass
pub record GoodRecord (s : Settings) (heap_len : ℕ) (b : Table) (slot : ℕ) (r : Record) : Type 0 where
  pub place : slot < slots_in s heap_len
  pub bounds : InBounds s.slot_bytes r.label
  pub present : r.label.present_objects ≤ r.label.file_size
  pub live : r.live ≤ capacity_of b
  pub mark : r.synced ≤ 1

-- 1 does not hold
pub record Passed (s : Settings) (heap_size : ℕ) (b : Table) (t : State) : Type 0 where
  pub limits : InLimits s heap_size b
  pub settings : s ≡ t.settings
  pub heap_len : heap_size ≡ t.heap_len
  pub table-len : capacity_of b ≡ t.table_len
  pub form : in_form b ≡ true
  pub next : 0 < t.next_position
  pub records : (k : ℕ) → is_empty (record_at t.files.records k) ≡ false → GoodRecord s heap_size b k (record_at t.files.records k)
