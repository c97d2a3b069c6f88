-- What a call is given and leaves: settings, state, claims and the lent buffers; and its answer as the paper's number and values.
use Rattle.std.specs.Prelude.{◌∷◌, Err, None, Ok, Some}
use Rattle.rules.specs.Base.{List, [], ℕ, length}
use Rattle.rules.specs.Types.{Entry, Settings, Record, State, Claims, Refusal, Answer, ReadAnswer, Found, Deleted, NeverWritten, MaintainAnswer, RewriteAnswer, CountsAnswer, Held, Loaded, At, DeletedAt, Never, LoadAnswer, GreaterAnswer, CompareAnswer, Swapped, Differs, stopped_with}
use Rattle.rules.specs.Refusal.{number_of}
use Rattle.rules.specs.Settings.{slots_in}
use Rattle.rules.specs.Layout.{Table, used_entries}
use Rattle.rules.specs.FileMap.{no_files}

-- a call's settings, the state, the claims and the lent buffers
pub record World : Type 0 where
  pub settings : Settings
  pub state : State
  pub claims : Claims
  pub heap : List ℕ
  pub table : Table

-- the same, as a call's parameters give it
abbrev pub world : Settings → State → Claims → List ℕ → Table → World
world settings state claims heap table = record { settings = settings; state = state; claims = claims; heap = heap; table = table }

-- the file map's records
abbrev pub records_of : World → List Record
records_of w = w.state.files.records

-- the table's used entries
abbrev pub mappings : World → List Entry
mappings w = used_entries w.table

-- N
abbrev pub slots_of : World → ℕ
slots_of w = slots_in w.settings (length w.heap)

-- the same settings and lengths with other records and another next position
abbrev pub state_with : State → List Record → ℕ → State
state_with s records next = record {
  settings = s.settings;
  heap_len = s.heap_len;
  table_len = s.table_len;
  files = record { records = records };
  next_position = next;
}

-- the state before the first reopening: all zeros, so that every other call is refused with 1
abbrev pub no_state : State
no_state = record {
  settings = record { slot_bytes = 0; file_compaction_percent = 0; min_compaction_files = 0; target_file_size = 0; small_file_cleanup_threshold = 0; max_object_size = 0 };
  heap_len = 0;
  table_len = 0;
  files = record { records = no_files };
  next_position = 0;
}

-- ---- answers
-- the refusal number, or 0, and the values beside it
pub record Given : Type 0 where
  pub number : ℕ
  pub values : List ℕ

-- success with these values
abbrev pub accepted : List ℕ → Given
accepted values = record { number = 0; values = values }

-- a refusal with no values
abbrev pub refused : Refusal → Given
refused r = record { number = number_of r; values = [] }

-- "a definition provides this paper's number and values for each of the enum's cases"
abbrev pub answer_given : Answer → Given
answer_given (Ok _) = accepted []
answer_given (Err r) = refused r

-- the kind of what is read or loaded, the first value: 0 never written, 1 deleted, 2 an object; then where the part starts and its length
abbrev pub read_given : ReadAnswer → Given
read_given (Ok (Found start size)) = accepted (2 ∷ start ∷ size ∷ [])
read_given (Ok Deleted) = accepted (1 ∷ [])
read_given (Ok NeverWritten) = accepted (0 ∷ [])
read_given (Err r) = refused r

-- "the count of ids moved"; "number, generation and ids moved so far"
abbrev pub maintain_given : MaintainAnswer → Given
maintain_given (Ok n) = accepted (n ∷ [])
maintain_given (Err s) = record { number = number_of s.refusal; values = s.generation ∷ s.moved ∷ [] }

-- request P7: "It answers ids moved, or the number alone."
abbrev pub rewrite_given : RewriteAnswer → Given
rewrite_given (Ok n) = accepted (n ∷ [])
rewrite_given (Err r) = refused r

-- "Files, bytes, present, live"
abbrev pub counts_given : CountsAnswer → Given
counts_given (Ok c) = accepted (c.files ∷ c.bytes ∷ c.present ∷ c.live ∷ [])
counts_given (Err r) = refused r

-- the kind, then the raw location
abbrev pub loaded_given : Loaded → Given
loaded_given (At l) = accepted (2 ∷ l ∷ [])
loaded_given (DeletedAt l) = accepted (1 ∷ l ∷ [])
loaded_given Never = accepted (0 ∷ [])

-- load
abbrev pub load_given : LoadAnswer → Given
load_given (Ok l) = loaded_given l
load_given (Err r) = refused r

-- the location held, or nothing
abbrev pub held_given : Held → Given
held_given (Some l) = accepted (l ∷ [])
held_given None = accepted []

-- "Store-if-greater gives the location held before or nothing"
abbrev pub greater_given : GreaterAnswer → Given
greater_given (Ok h) = held_given h
greater_given (Err r) = refused r

-- nothing, or the current location that differs
abbrev pub compare_given : CompareAnswer → Given
compare_given (Ok Swapped) = accepted []
compare_given (Ok (Differs l)) = accepted (l ∷ [])
compare_given (Err r) = refused r

-- ---- a call's answer and everything after it
pub record After : Type 0 where
  pub answer : Given
  pub world : World

-- "A refusal changes no state or buffer"
abbrev pub unchanged : World → Refusal → After
unchanged w r = record { answer = refused r; world = w }

-- what a call left, as its result and the lent buffers give it
abbrev pub leaving : Given → World → After
leaving answer w = record { answer = answer; world = w }
