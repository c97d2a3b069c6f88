-- What a group found, remembered as one mark for each entry of the table: 0, or the slot where it was found last, plus 1.
use Rattle.std.specs.Prelude.{◌∷◌, ◌++◌, ◌+◌, ◌-◌, Some}
use Rattle.rules.specs.Base.{Bool, false, List, [], map, ℕ, suc, drop, replicate, eqb, pick, any}
use Rattle.rules.specs.declared.Entry.{Entry}
use Rattle.rules.specs.declared.Label.{Label}
use Rattle.rules.specs.declared.Loaded.{Loaded}
use Rattle.rules.specs.declared.Loaded.TheVariants.{At, DeletedAt, Never}
use Rattle.disk_location.specs.Locations.{position_of, delete_of, raw_of}
use Rattle.rules.specs.Table.{loaded_of, load, current_at}
use Rattle.rules.specs.Trailer.{absolute}
use Rattle.rules.specs.Object.{Stored, stored_at}
use Rattle.rules.specs.Ops.{Content, put, delete, Op}
use Rattle.rules.specs.SlotFile.{object_part}
use Rattle.rules.specs.Maintenance.{objects_found, deletes_found}
use Rattle.gc_group.specs.Source.{Source, file_at, bytes_at}

-- "Objects and deletes at their id's current location", of one file
abbrev pub found_file : List Entry → Label → List ℕ → List Op
found_file table r slot = objects_found table r slot ++ deletes_found table r slot

-- the same, of the file in slot k
abbrev pub found_at : Source → ℕ → List Op
found_at s k = found_file s.table (file_at s k) (bytes_at s k)

-- the ids of operations
abbrev pub ids_of : List Op → List ℕ
ids_of ops = map (λ (o : Op). o.id) ops

-- x is among them
abbrev pub among : ℕ → List ℕ → Bool
among x ids = any (λ (n : ℕ). eqb n x) ids

-- the id, where this is its current location
unfoldable pub current : List Entry → ℕ → ℕ → List ℕ
current table id location = pick (current_at (load table id) location) (id ∷ []) []

-- an object's, in a file of that lsn
unfoldable pub object_id : ℕ → List Entry → Stored → List ℕ
object_id lsn table o = current table o.id (raw_of (lsn + o.position) false)

-- a trailer entry's: an object's entry is not looked at
unfoldable pub delete_id : ℕ → List Entry → Entry → List ℕ
delete_id lsn table e = pick (delete_of e.location) (current table e.id (absolute lsn e).location) []

-- the entries of these ids take the mark m, the others keep theirs
unfoldable pub marked : ℕ → List ℕ → List Entry → List ℕ → List ℕ
marked m ids [] marks = marks
marked m ids (e ∷ es) [] = []
marked m ids (e ∷ es) (n ∷ ns) = pick (among e.id ids) m n ∷ marked m ids es ns

-- slot by slot: "as last found"
unfoldable pub marks_from : Source → List ℕ → List ℕ → List ℕ
marks_from s [] marks = marks
marks_from s (k ∷ ks) marks = marks_from s ks (marked (suc k) (ids_of (found_at s k)) s.table marks)

-- the n marks of a group
unfoldable pub marks_of : Source → ℕ → List ℕ → List ℕ
marks_of s n slots = marks_from s slots (replicate n 0)

-- what stands at an absolute location in the file of slot k
abbrev pub object_of : Source → ℕ → ℕ → Stored
object_of s location k =
    let position = position_of location - (file_at s k).lsn in
    stored_at position (drop position (object_part (file_at s k) (bytes_at s k)))

-- the content of an entry in the file of slot k, by what load tells of the entry: of one that is held, not `Never`
abbrev pub loaded_content : Source → Loaded → ℕ → Content
loaded_content s (At l) k = put (object_of s l k).body
loaded_content s (DeletedAt l) k = delete
loaded_content s Never k = delete

-- of the entry at a location
unfoldable pub content_at : Source → ℕ → ℕ → Content
content_at s location k = loaded_content s (loaded_of (Some location)) k

-- the marked entries in table order, each with its content in the slot of its mark
unfoldable pub marked_ops : Source → List Entry → List ℕ → List Op
marked_ops s [] marks = []
marked_ops s (e ∷ es) [] = []
marked_ops s (e ∷ es) (m ∷ ms) = pick (eqb m 0) (marked_ops s es ms) (record { id = e.id; content = content_at s e.location (m - 1) } ∷ marked_ops s es ms)
