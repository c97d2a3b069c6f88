-- A store as its slots' views, its records, its table and its next position; and what it says of an id.
use Rattle.std.specs.Prelude.{◌+◌, ◌-◌, None, Some}
use Rattle.rules.specs.Base.{List, ℕ, length, set, drop, pick}
use Rattle.theory.specs.Types.{Entry, Record, Refusal, NotThere, Held, Loaded, At, DeletedAt, Never, Slot}
use Rattle.disk_location.specs.Locations.{position_of, delete_of}
use Rattle.rules.specs.Refusal.{decide, after}
use Rattle.rules.specs.Object.{Stored, stored_at}
use Rattle.rules.specs.Ops.{put, delete, Op, objects_of}
use Rattle.rules.specs.SettledLaws.{Last, silent, last}
use Rattle.rules.specs.WrittenLaws.{file_of_ops}
use Rattle.rules.specs.SlotFile.{File, View, empty, damaged, holds, views_in}
use Rattle.rules.specs.Table.{lookup, loaded_of, load, insert_all}
use Rattle.rules.specs.FileMap.{record_at, file_for}
use Rattle.rules.specs.Install.{new_record, losing}
use Rattle.rules.specs.Read.{object_tests}
use Rattle.rules.specs.World.{World, records_of, mappings, slots_of}
use Rattle.theory.specs.Places.{view_at}
use Rattle.theory.specs.Losing.{rows_for}

-- what the theorems look at
pub record Picture : Type 0 where
  pub views : List View
  pub records : List Record
  pub table : List Entry
  pub next : ℕ

-- what the heap's slots show
abbrev pub views_of : World → List View
views_of w = views_in (slots_of w) w.settings.slot_bytes w.heap

-- the picture of a store in bytes
abbrev pub picture_of : World → Picture
picture_of w = record { views = views_of w; records = records_of w; table = mappings w; next = w.state.next_position }

-- ---- what is said of an id: nothing yet, deleted, a body; or a read that is refused
pub data Said : Type 0 where
  unheard : Said
  gone : Said
  body : List ℕ → Said
  broken : Refusal → Said

-- an object, by the read's checks
abbrev pub object_says : ℕ → Stored → Said
object_says x o = after (decide (object_tests x o)) broken (body o.body)

-- what stands at a position of a file's object bytes
abbrev pub place_says : File → ℕ → ℕ → Said
place_says f position x = object_says x (stored_at position (drop position f.objects))

-- by a file's own trailer
abbrev pub entry_says : File → Held → ℕ → Said
entry_says f None x = unheard
entry_says f (Some r) x = pick (delete_of r) gone (place_says f (position_of r) x)

-- of an id
unfoldable pub file_says : File → ℕ → Said
file_says f x = entry_says f (lookup f.entries x) x

-- at a position of what a slot shows
abbrev pub view_says : View → ℕ → ℕ → Said
view_says empty position x = broken NotThere
view_says (damaged r) position x = broken NotThere
view_says (holds f) position x = place_says f position x

-- at a location, by the file that is found for it
abbrev pub slot_says : Picture → Slot → ℕ → ℕ → Said
slot_says p None l x = broken NotThere
slot_says p (Some k) l x = view_says (view_at p.views k) (position_of l - (record_at p.records k).label.lsn) x

-- by what load tells
abbrev pub loaded_says : Picture → Loaded → ℕ → Said
loaded_says p Never x = unheard
loaded_says p (DeletedAt l) x = gone
loaded_says p (At l) x = slot_says p (file_for p.records l) l x

-- of what the table holds
abbrev pub held_says : Picture → Held → ℕ → Said
held_says p h x = loaded_says p (loaded_of h) x

-- by the store: what a read gives
unfoldable pub picture_says : Picture → ℕ → Said
picture_says p x = loaded_says p (load p.table x) x

-- by the last operation on the id
abbrev pub last_says : Last → Said
last_says silent = unheard
last_says (last (put b)) = body b
last_says (last delete) = gone

-- ---- a file of operations added in slot k
unfoldable pub added : ℕ → ℕ → Picture → ℕ → List Op → Picture
added lsn generation p k os = record {
  views = set p.views k (holds (file_of_ops lsn generation os));
  records = set (losing p.table os p.records) k (new_record lsn generation os);
  table = insert_all p.table (rows_for lsn 0 os);
  next = p.next + (length (objects_of os) + 1);
}
