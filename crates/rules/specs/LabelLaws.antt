-- The label: its bounds as facts, its length, and that what was written is read back.
use Rattle.std.specs.Prelude.{◌≤◌, ◌<◌, ◌+◌, ◌-◌, ◌^◌}
use Rattle.rules.specs.Base.{ℕ}
use Rattle.rules.specs.Types.{Label}
use Rattle.disk_location.specs.Locations.{masked_of}

-- within 8's bounds
pub record InBounds (bytes_of_slot : ℕ) (l : Label) : Type 0 where
  pub size : l.file_size ≤ bytes_of_slot - 64
  pub offset : l.trailer_offset ≤ l.file_size
  pub masked : 0 < masked_of l.lsn
  pub lsn : l.lsn < 2 ^ 63
  pub end : masked_of l.lsn + l.trailer_offset < 2 ^ 62
  pub generation : l.generation ≤ 255

-- ---- the label
-- the numbers of a label have 64 bits
pub record LabelFits (l : Label) : Type 0 where
  pub lsn : l.lsn < 2 ^ 64
  pub offset : l.trailer_offset < 2 ^ 64
  pub size : l.file_size < 2 ^ 64
  pub present : l.present_objects < 2 ^ 64
  pub generation : l.generation < 2 ^ 64
