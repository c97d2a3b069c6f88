-- "Settings": the ranges as facts.
use Rattle.std.specs.Prelude.{◌≡◌, ◌≤◌, ◌%◌}
use Rattle.rules.specs.Base.{ℕ}
use Rattle.rules.specs.Types.{Settings}
use Rattle.rules.specs.Settings.{slots_in}

-- the column "Range"
pub record InRanges (s : Settings) : Type 0 where
  pub slot-low : 128 ≤ s.slot_bytes
  pub slot-high : s.slot_bytes ≤ 1048576
  pub percent : s.file_compaction_percent ≤ 100
  pub files-low : 1 ≤ s.min_compaction_files
  pub files-high : s.min_compaction_files ≤ 256
  pub target-low : 1 ≤ s.target_file_size
  pub target-high : s.target_file_size ≤ 1048576
  pub threshold : s.small_file_cleanup_threshold ≤ 256
  pub object-low : 1 ≤ s.max_object_size
  pub object-high : s.max_object_size ≤ 1048576

-- "slots N = heap length / S, exact: 1..256"
pub record HeapInRange (s : Settings) (heap_len : ℕ) : Type 0 where
  pub exact : heap_len % s.slot_bytes ≡ 0
  pub some : 1 ≤ slots_in s heap_len
  pub most : slots_in s heap_len ≤ 256
