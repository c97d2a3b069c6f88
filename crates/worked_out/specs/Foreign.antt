-- A clean heap that no writer of ours made, worked out: ids fall and one repeats, a delete's position is inside an object, bytes follow the
-- entries, the generation is 255, a body is of max_object_size, and the next position comes over 2^62.
use Rattle.std.specs.Prelude.{◌∷◌, ◌++◌, ◌+◌}
use Rattle.rules.specs.Base.{List, [], ℕ, replicate, zeros, each}
use Rattle.theory.specs.Types.{Entry, Label}
use Rattle.numbers.specs.LittleEndian.{le_bytes}
use Rattle.rules.specs.Object.{object_bytes}
use Rattle.rules.specs.Trailer.{listed}
use Rattle.rules.specs.Claims.{no_claims}
use Rattle.rules.specs.SlotFile.{File}
use Rattle.rules.specs.World.{World, no_state}
use Rattle.history_theory.specs.Writes.{bytes}
use Rattle.checksum.specs.Checksum.{crc32}
use Rattle.rules.specs.Label.{label_bytes}

-- 5, then 3, then 5 again
abbrev pub objects : List ℕ
objects = object_bytes 5 (0x41 ∷ []) ++ (object_bytes 3 (0x42 ∷ 0x43 ∷ []) ++ object_bytes 5 (0x44 ∷ []))

-- an object entry of each, at 0, 21 and 43; and a delete of 4 at 30
abbrev pub entries : List Entry
entries = record { id = 5; location = 0 } ∷ record { id = 4; location = 61 } ∷ record { id = 3; location = 42 } ∷ record { id = 5; location = 86 } ∷ []

-- two bytes follow the entries
abbrev pub trailer : List ℕ
trailer = le_bytes 4 (crc32 (listed entries ++ (7 ∷ 7 ∷ []))) ++ (listed entries ++ (7 ∷ 7 ∷ []))

-- masked lsn + T is 2^62 - 1
abbrev pub label : Label
label = record { lsn = 4611686018427387839; trailer_offset = 64; file_size = 142; present_objects = 4; generation = 255 }

-- two slots, the second of zeros; bodies of 2 or more are too large for a batch
abbrev pub foreign : World
foreign = record {
  settings = record { slot_bytes = 256; file_compaction_percent = 100; min_compaction_files = 1; target_file_size = 100; small_file_cleanup_threshold = 256; max_object_size = 2 };
  state = no_state;
  claims = no_claims;
  heap = label_bytes label ++ (objects ++ (trailer ++ replicate 306 0));
  table = replicate 6 0;
}

-- what the first slot shows
abbrev pub file : File
file = record { label = label; entries = entries; objects = objects }
