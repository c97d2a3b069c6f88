-- Adding files: what write and maintenance share.
use Rattle.std.specs.Prelude.{◌&&◌, ◌∷◌, ◌+◌, ◌*◌, ◌^◌, None}
use Rattle.rules.specs.Base.{List, [], map, ℕ, length, set, ltb, any, sum}
use Rattle.rules.specs.Types.{Entry, Label, Record, Slot, Loaded, At, DeletedAt, Never, SlotRoom, NoEmptySlot, PositionsSpent}
use Rattle.rules.specs.Refusal.{Test, ◌gives◌}
use Rattle.rules.specs.Trailer.{absolute}
use Rattle.rules.specs.Ops.{Op, objects_of, entries_of, file_bytes}
use Rattle.rules.specs.Label.{label_bytes}
use Rattle.rules.specs.Table.{load, insert_all}
use Rattle.rules.specs.Layout.{Table, laid_out, capacity_of}
use Rattle.rules.specs.FileMap.{recorded, empty_slots, lowest_empty, file_for, less_live}
use Rattle.rules.specs.Stores.{Store, made, file_stores}
use Rattle.rules.specs.World.{World, records_of, slots_of, mappings, state_with}

-- the label of a new file: "present_objects is the entry count, deletes included"
unfoldable pub new_label : ℕ → ℕ → List Op → Label
new_label lsn generation ops = record {
  lsn = lsn;
  trailer_offset = length (objects_of ops);
  file_size = length (file_bytes ops);
  present_objects = length ops;
  generation = generation;
}

-- its record: "the new file has all its entries live"; the mark is "clear on writing"
unfoldable pub new_record : ℕ → ℕ → List Op → Record
new_record lsn generation ops = recorded (new_label lsn generation ops) (length ops) 0

-- the file of a location loaded, an object's or a delete's, if any
abbrev pub file_holding : List Record → Loaded → Slot
file_holding rs (At l) = file_for rs l
file_holding rs (DeletedAt l) = file_for rs l
file_holding rs Never = None

-- "each replaced location's file, found before the new one is added, loses one live"
unfoldable pub losing : List Entry → List Op → List Record → List Record
losing table [] rs = rs
losing table (o ∷ os) rs = losing table os (less_live (file_holding rs (load table o.id)) rs)

-- "The file takes the lowest empty slot"
abbrev pub new_slot : World → ℕ
new_slot w = lowest_empty (slots_of w) (records_of w)

-- "base = next position, lsn = base with the batch bit" (bit 2^62), or "without" (bit 0)
abbrev pub new_lsn : ℕ → World → ℕ
new_lsn bit w = w.state.next_position + bit

-- the file map after it
unfoldable pub records_with : Record → World → List Op → List Record
records_with new w ops = set (losing (mappings w) ops (records_of w)) (new_slot w) new

-- the stores that write it
unfoldable pub stores_for : Label → World → List Op → List Store
stores_for new w ops = file_stores (new_slot w * w.settings.slot_bytes) (label_bytes new) (file_bytes ops)

-- "Each id takes its new location"
unfoldable pub table_with : ℕ → World → List Op → Table
table_with lsn w ops = laid_out (capacity_of w.table) (insert_all (mappings w) (map (absolute lsn) (entries_of 0 ops)))

-- "next grows by T + 1"
unfoldable pub next_with : World → List Op → ℕ
next_with w ops = w.state.next_position + (length (objects_of ops) + 1)

-- a file of these operations added
unfoldable pub installed : ℕ → ℕ → World → List Op → World
installed bit generation w ops =
    let lsn = new_lsn bit w in
    record {
      settings = w.settings;
      state = state_with w.state (records_with (new_record lsn generation ops) w ops) (next_with w ops);
      claims = w.claims;
      heap = made (stores_for (new_label lsn generation ops) w ops) w.heap;
      table = table_with lsn w ops;
    }

-- file by file
unfoldable pub installed_all : ℕ → ℕ → World → List (List Op) → World
installed_all bit generation w [] = w
installed_all bit generation w (f ∷ fs) = installed_all bit generation (installed bit generation w f) fs

-- "4 64 + file_size > S"; "5 fewer empty slots than new files"
unfoldable pub room_tests : ℕ → ℕ → List (List Op) → List Test
room_tests slot_size empty_ones files =
    any (λ (f : List Op). ltb slot_size (64 + length (file_bytes f))) files gives SlotRoom
    ∷ ltb empty_ones (length files) gives NoEmptySlot
    ∷ []

-- how many empty slots a call has
abbrev pub empty_of : World → ℕ
empty_of w = length (empty_slots (slots_of w) (records_of w))

-- "7 a new file, and base + sum of (T + 1) over them > 2^62"
unfoldable pub position_tests : ℕ → List (List Op) → List Test
position_tests base files =
    (ltb 0 (length files) && ltb (2 ^ 62) (base + sum (λ (f : List Op). length (objects_of f) + 1) files)) gives PositionsSpent
    ∷ []
