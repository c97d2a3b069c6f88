-- Where a record's numbers come from, the state that holds the records, and how large their numbers are once refusal 1 is decided.
use Rattle.std.specs.Prelude.{◌≡◌, refl, ◌≤◌}
use Rattle.rules.specs.Base.{List, ℕ, length}
use Rattle.rules.specs.declared.Label.{Label}
use Rattle.rules.specs.declared.Record.{Record}
use Rattle.rules.specs.declared.Settings.{Settings}
use Rattle.rules.specs.declared.State.{State}
use Rattle.rules.specs.FileMap.{recorded, record_at}
use Rattle.rules.specs.Ops.{Op, objects_of, file_bytes}
use Rattle.rules.specs.Install.{new_label, new_record}

-- a label's five numbers
abbrev pub labelled : ℕ → ℕ → ℕ → ℕ → ℕ → Label
labelled lsn offset size present generation =
    record { lsn = lsn; trailer_offset = offset; file_size = size; present_objects = present; generation = generation }

-- "the new file has all its entries live"; the mark is "clear on writing"
abbrev pub fresh : Label → Record
fresh l = recorded l l.present_objects 0

-- a state of these settings and lengths
abbrev pub state_by : Settings → ℕ → ℕ → List Record → ℕ → State
state_by settings heap_len table_len records next = record {
  settings = settings;
  heap_len = heap_len;
  table_len = table_len;
  files = record { records = records };
  next_position = next;
}

-- the numbers of a new file's label
pub new-label : (lsn generation : ℕ) (ops : List Op) → new_label lsn generation ops ≡ labelled lsn (length (objects_of ops)) (length (file_bytes ops)) (length ops) generation
unfolding new_label
new-label lsn generation ops = refl

-- a new file's record is its label's
pub new-record : (lsn generation : ℕ) (ops : List Op) → new_record lsn generation ops ≡ fresh (new_label lsn generation ops)
unfolding new_record new_label
new-record lsn generation ops = refl

-- what refusal 1 leaves of a record's numbers, so that sums over 256 of them fit
pub record Small (r : Record) : Type 0 where
  pub size : r.label.file_size ≤ 1048576
  pub present : r.label.present_objects ≤ 1048576
  pub live : r.live ≤ 65536

abbrev pub Bounded : List Record → Type 0
Bounded rs = (k : ℕ) → Small (record_at rs k)
