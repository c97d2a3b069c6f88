-- The state as 1,801 words: six settings, two lengths, 256 records of seven, the next position; the fields of `State` in their order.
use Rattle.std.specs.Prelude.{◌∷◌, ◌++◌, ◌+◌}
use Rattle.rules.specs.Base.{List, [], ℕ, zero, suc, get_or}
use Rattle.rules.specs.declared.Settings.{Settings}
use Rattle.rules.specs.declared.Record.{Record}
use Rattle.rules.specs.declared.State.{State}
use Rattle.rules.specs.FileMap.{recorded}
use Rattle.file_map.specs.Records.{labelled}

-- ---- from words
-- the record whose first word stands at a place
unfoldable pub record_at : List ℕ → ℕ → Record
record_at ws at =
    recorded (labelled (get_or ws at 0) (get_or ws (at + 1) 0) (get_or ws (at + 2) 0) (get_or ws (at + 3) 0) (get_or ws (at + 4) 0)) (get_or ws (at + 5) 0) (get_or ws (at + 6) 0)

-- n records from a place on
unfoldable pub records_from : ℕ → List ℕ → ℕ → List Record
records_from zero ws at = []
records_from (suc n) ws at = record_at ws at ∷ records_from n ws (at + 7)

-- the settings
unfoldable pub settings_in : List ℕ → Settings
settings_in ws = record {
  slot_bytes = get_or ws 0 0;
  file_compaction_percent = get_or ws 1 0;
  min_compaction_files = get_or ws 2 0;
  target_file_size = get_or ws 3 0;
  small_file_cleanup_threshold = get_or ws 4 0;
  max_object_size = get_or ws 5 0;
}

-- the state that 1,801 words hold
unfoldable pub state_in : List ℕ → State
state_in ws = record {
  settings = settings_in ws;
  heap_len = get_or ws 6 0;
  table_len = get_or ws 7 0;
  files = record { records = records_from 256 ws 8 };
  next_position = get_or ws 1800 0;
}

-- ---- to words
-- a record's seven
unfoldable pub record_words : Record → List ℕ
record_words r = r.label.lsn ∷ r.label.trailer_offset ∷ r.label.file_size ∷ r.label.present_objects ∷ r.label.generation ∷ r.live ∷ r.synced ∷ []

-- of records, one after the other
unfoldable pub records_words : List Record → List ℕ
records_words [] = []
records_words (r ∷ rs) = record_words r ++ records_words rs

-- the settings' six
unfoldable pub settings_words : Settings → List ℕ
settings_words s =
    s.slot_bytes ∷ s.file_compaction_percent ∷ s.min_compaction_files ∷ s.target_file_size ∷ s.small_file_cleanup_threshold ∷ s.max_object_size ∷ []

-- the words of a state
unfoldable pub words_of : State → List ℕ
words_of s = settings_words s.settings ++ (s.heap_len ∷ s.table_len ∷ (records_words s.files.records ++ (s.next_position ∷ [])))
