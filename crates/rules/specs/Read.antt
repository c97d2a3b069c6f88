-- "Read." "Checks in order: 18, 16 (header or body past file_size), 10, 17."
use Rattle.std.specs.Prelude.{◌∷◌, ◌+◌, ◌-◌, ◌*◌, Err, None, Ok, Some}
use Rattle.rules.specs.Base.{not, List, [], ℕ, take, drop, ltb, eqb}
use Rattle.rules.specs.Types.{Loaded, At, DeletedAt, Never, Slot, ReadAnswer, Found, Deleted, NeverWritten, Limits, NotThere, CutShort, Checksum, OtherId}
use Rattle.disk_location.specs.Locations.{position_of}
use Rattle.rules.specs.Refusal.{Test, ◌gives◌, decide, after}
use Rattle.rules.specs.Object.{Stored, stored_at, bad_checksum}
use Rattle.rules.specs.SlotFile.{bytes_of_slot, file_in}
use Rattle.rules.specs.Table.{load}
use Rattle.rules.specs.FileMap.{record_at, file_for}
use Rattle.rules.specs.Condition1.{refused1}
use Rattle.rules.specs.World.{World, records_of, mappings, read_given, After}

-- "16 (header or body past file_size), 10, 17" for what stands at a position of a file
unfoldable pub object_tests : ℕ → Stored → List Test
object_tests id o =
    ltb o.room 20 gives CutShort
    ∷ ltb o.room (20 + o.size) gives CutShort
    ∷ bad_checksum o gives Checksum
    ∷ not (eqb o.id id) gives OtherId
    ∷ []

-- the object at a position of the file in slot k
abbrev pub object_in : World → ℕ → ℕ → Stored
object_in w k position = stored_at position (drop position (file_in (record_at (records_of w) k).label (bytes_of_slot w.settings.slot_bytes w.heap k)))

-- "the found bytes are a part of the lent heap itself": their start in the heap and their length
abbrev pub read_object : World → ℕ → ℕ → Stored → ReadAnswer
read_object w id k o = after (decide (object_tests id o)) Err (Ok (Found (k * w.settings.slot_bytes + 64 + o.position + 20) o.size))

-- 18 where no file is at or below the location
abbrev pub read_file : World → ℕ → ℕ → Slot → ReadAnswer
read_file w id l None = Err NotThere
read_file w id l (Some k) = read_object w id k (object_in w k (position_of l - (record_at (records_of w) k).label.lsn))

-- request P1: "Reading now gives "never written" or "deleted"", else what stands at the location
abbrev pub read_loaded : World → ℕ → Loaded → ReadAnswer
read_loaded w id Never = Ok NeverWritten
read_loaded w id (DeletedAt l) = Ok Deleted
read_loaded w id (At l) = read_file w id l (file_for (records_of w) l)

-- 1 first
unfoldable pub read_of : World → ℕ → ReadAnswer
read_of w id = after (decide (refused1 w gives Limits ∷ [])) Err (read_loaded w id (load (mappings w) id))

-- "A refused read, or one that finds nothing, gives an empty part."
abbrev pub part_of : ReadAnswer → List ℕ → List ℕ
part_of (Ok (Found start size)) heap = take size (drop start heap)
part_of (Ok Deleted) heap = []
part_of (Ok NeverWritten) heap = []
part_of (Err r) heap = []

-- the call: nothing changes
unfoldable pub read_call : World → ℕ → After
read_call w id = record { answer = read_given (read_of w id); world = w }
