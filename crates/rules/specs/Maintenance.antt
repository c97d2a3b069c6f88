-- "Maintenance"
use Rattle.std.specs.Prelude.{◌&&◌, ◌||◌, ◌∷◌, ◌++◌, ◌+◌, ◌*◌, ◌/◌, ◌^◌, Err, Ok}
use Rattle.rules.specs.Base.{Bool, true, false, not, List, [], map, ℕ, suc, length, get_or, set, replicate, leb, ltb, eqb, pick, keep, each, larger}
use Rattle.rules.specs.Types.{Entry, Label, Record, Settings, Claims, Refusal, Limits, ObjectSize, Checksum, CutShort, NotThere, Location, stopped_with}
use Rattle.disk_location.specs.Locations.{masked_of, position_of, delete_of, raw_of}
use Rattle.rules.specs.Refusal.{Test, ◌gives◌, decide, after}
use Rattle.rules.specs.Object.{Stored, objects_in, bad_checksum}
use Rattle.rules.specs.Trailer.{absolute, trailer_tests}
use Rattle.rules.specs.Ops.{put, delete, Op, size_of, shard_for, settled}
use Rattle.rules.specs.SlotFile.{bytes_of_slot, object_part, trailer_part, trailer_entries}
use Rattle.rules.specs.Table.{load, never_written, current_at}
use Rattle.rules.specs.Claims.{is_claimed}
use Rattle.rules.specs.FileMap.{is_empty, record_at, slots_where, file_count}
use Rattle.rules.specs.Condition1.{refused1}
use Rattle.rules.specs.Install.{installed_all, room_tests, empty_of, position_tests}
use Rattle.rules.specs.Prune.{pruned}
use Rattle.rules.specs.World.{World, records_of, mappings, maintain_given, After}

-- ---- which files
-- "live × 100 / max(present, 1), rounded down"
abbrev pub live_percent : Record → ℕ
live_percent r = r.live * 100 / larger r.label.present_objects 1

-- "live × 100 / max(present, 1), rounded down, strictly below the percentage, or both file count ≥ threshold and
-- file_size × min_compaction_files < target_file_size"
unfoldable pub worth_it : Settings → ℕ → Record → Bool
worth_it s files r =
    ltb (live_percent r) s.file_compaction_percent
    || (leb s.small_file_cleanup_threshold files && ltb (r.label.file_size * s.min_compaction_files) s.target_file_size)

-- "new generation min(g + 1, 3)"
abbrev pub new_generation : ℕ → ℕ
new_generation g = pick (leb 3 (suc g)) 3 (suc g)

-- "Candidates .. are unclaimed files with live not 0, and .."; request P7: "only files with masked lsn below the mark", the threshold "against that
-- count"
unfoldable pub is_candidate : Settings → Claims → ℕ → ℕ → ℕ → Record → Bool
is_candidate s claims mark count slot r =
    not (is_empty r) && not (is_claimed claims slot) && not (eqb r.live 0) && worth_it s count r && ltb (masked_of r.label.lsn) mark

-- "They are grouped by new generation": the slots of one, ascending
unfoldable pub group : World → ℕ → ℕ → ℕ → List ℕ
group w generation mark count =
    slots_where (λ (i : ℕ) (r : Record). is_candidate w.settings w.claims mark count i r && eqb (new_generation r.label.generation) generation) 0 (records_of w)

-- "Candidates, fixed as the call starts": by the file count there; a mark of 2^62 is above every file's masked lsn, so it leaves none out
abbrev pub start_group : World → ℕ → List ℕ
start_group w generation = group w generation (2 ^ 62) (file_count (records_of w))

-- ---- one file of a group: the table, its label and its slot's bytes
-- "each object: header past T (16), length ≥ max_object_size (3), id unmapped (18), body past T (16), checksum (10)"
unfoldable pub moved_tests : ℕ → List Entry → Stored → List Test
moved_tests limit table o =
    ltb o.room 20 gives CutShort
    ∷ leb limit o.size gives ObjectSize
    ∷ never_written (load table o.id) gives NotThere
    ∷ ltb o.room (20 + o.size) gives CutShort
    ∷ bad_checksum o gives Checksum
    ∷ []

-- "then delete entries: sum too great (20), id unmapped (18)"
unfoldable pub delete_tests : ℕ → List Entry → Entry → List Test
delete_tests lsn table e =
    leb (2 ^ 63) (position_of e.location + lsn) gives Location
    ∷ never_written (load table e.id) gives NotThere
    ∷ []

-- its objects, by the label's T
abbrev pub stored_objects : Label → List ℕ → List Stored
stored_objects l slot = objects_in (object_part l slot)

-- its delete entries, in entry order
unfoldable pub deletes_of : Label → List ℕ → List Entry
deletes_of l slot = keep (λ (e : Entry). delete_of e.location) (trailer_entries l slot)

-- "trailer (9, 10, 11), then each object .. then delete entries"
unfoldable pub file_tests : ℕ → List Entry → Label → List ℕ → List Test
file_tests limit table l slot =
    trailer_tests (trailer_part l slot)
    ++ (each (moved_tests limit table) (stored_objects l slot) ++ each (delete_tests l.lsn table) (deletes_of l slot))

-- "Objects .. at their id's current location"
unfoldable pub objects_found : List Entry → Label → List ℕ → List Op
objects_found table l slot =
    map (λ (o : Stored). record { id = o.id; content = put o.body })
    (keep (λ (o : Stored). current_at (load table o.id) (raw_of (l.lsn + o.position) false)) (stored_objects l slot))

-- ".. and deletes at their id's current location"
unfoldable pub deletes_found : List Entry → Label → List ℕ → List Op
deletes_found table l slot =
    map (λ (e : Entry). record { id = e.id; content = delete })
    (keep (λ (e : Entry). current_at (load table e.id) (absolute l.lsn e).location) (deletes_of l slot))

-- ---- a group
-- the bytes of slot k
abbrev pub slot_of : World → ℕ → List ℕ
slot_of w k = bytes_of_slot w.settings.slot_bytes w.heap k

-- objects, then deletes, of the file in slot k
abbrev pub found_in : World → ℕ → List Op
found_in w k = objects_found (mappings w) (record_at (records_of w) k).label (slot_of w k) ++ deletes_found (mappings w) (record_at (records_of w) k).label (slot_of w k)

-- ".. are rewritten, ascending by id (one found twice only once, as last found)"
unfoldable pub found : World → List ℕ → List Op
found w slots = settled (each (found_in w) slots)

-- ---- the files that come out
-- a shard: its size and entries
pub record Shard : Type 0 where
  pub size : ℕ
  pub ops : List Op

-- "restarts at 0"
abbrev pub no_entries : Shard
no_entries = record { size = 0; ops = [] }

-- shards by number, and the fragments cut so far
pub record Split : Type 0 where
  pub shards : List Shard
  pub fragments : List (List Op)

-- "Before an entry joins it, a shard of size over target_file_size is cut off as a fragment and restarts at 0"
unfoldable pub cut_off : ℕ → ℕ → Split → Split
cut_off target n s =
    pick (ltb target (get_or s.shards n no_entries).size)
    (record { shards = set s.shards n no_entries; fragments = s.fragments ++ ((get_or s.shards n no_entries).ops ∷ []) })
    s

-- an entry joins shard n: "an object adds 20 + length, a delete 0"
unfoldable pub joining : Op → ℕ → Split → Split
joining o n s = record {
  shards = set s.shards n (record {
    size = (get_or s.shards n no_entries).size + size_of o.content;
    ops = (get_or s.shards n no_entries).ops ++ (o ∷ []);
  });
  fragments = s.fragments;
}

-- entry by entry, ascending by id
unfoldable pub split_from : ℕ → List Op → Split → Split
split_from target [] s = s
split_from target (o ∷ os) s = split_from target os (joining o (shard_for o.content) (cut_off target (shard_for o.content) s))

-- "The writer never writes an empty list."
abbrev pub has_entries : List Op → Bool
has_entries [] = false
has_entries (o ∷ os) = true

-- "Files come out by ascending shard, then fragments as cut"
unfoldable pub files_of : ℕ → List Op → List (List Op)
files_of target ops =
    let split = split_from target ops (record { shards = replicate 65 no_entries; fragments = [] }) in
    keep has_entries (map (λ (s : Shard). s.ops) split.shards) ++ split.fragments

-- ---- group by group
-- where the call stands: a refused group's number and generation, or none; ids moved; the world
pub data Stop : Type 0 where
  going : Stop
  stopped : Refusal → ℕ → Stop

-- where the call stands
pub record Course : Type 0 where
  pub stop : Stop
  pub moved : ℕ
  pub world : World

-- "All files of a group are checked before it writes, ascending by slot"
abbrev pub source_tests : World → List ℕ → List Test
source_tests w slots = each (λ (k : ℕ). file_tests w.settings.max_object_size (mappings w) (record_at (records_of w) k).label (slot_of w k)) slots

-- ".. before it writes"; "4, 5, 7 are decided first, for the whole group"
unfoldable pub group_tests : World → List ℕ → List (List Op) → List Test
group_tests w slots files =
    source_tests w slots
    ++ (room_tests w.settings.slot_bytes (empty_of w) files ++ position_tests w.state.next_position files)

-- a group rewritten, or refused and nothing changed; "lsn = base without the batch bit";
-- "Each file then changes table, live counts and next as a write does."
unfoldable pub rewrite_group : ℕ → List ℕ → ℕ → World → Course
rewrite_group generation slots moved w =
    let ops = found w slots in
    let files = files_of w.settings.target_file_size ops in
    after (decide (group_tests w slots files))
    (λ (r : Refusal). record { stop = stopped r generation; moved = moved; world = w })
    (record { stop = going; moved = moved + length ops; world = installed_all 0 generation w files })

-- "one with fewer files than min_compaction_files is skipped"; "A refusal stops the call, keeps finished groups"
abbrev pub onward : Stop → ℕ → List ℕ → Course → Course
onward (stopped r g) generation slots c = c
onward going generation slots c =
    pick (ltb (length slots) c.world.settings.min_compaction_files) c (rewrite_group generation slots c.moved c.world)

-- "Groups go in ascending generation"
unfoldable pub groups_from : List ℕ → World → Course → Course
groups_from [] start c = c
groups_from (g ∷ gs) start c = groups_from gs start (onward c.stop g (start_group start g) c)

-- generations 1, 2 and 3 from the start
unfoldable pub course_of : World → Course
course_of w = groups_from (1 ∷ 2 ∷ 3 ∷ []) w (record { stop = going; moved = 0; world = w })

-- "gives number, generation and ids moved so far ..; nothing is pruned. Success prunes and gives the count of ids moved."
abbrev pub ended : Stop → Course → After
ended (stopped r g) c = record { answer = maintain_given (Err (stopped_with r g c.moved)); world = c.world }
ended going c = record { answer = maintain_given (Ok c.moved); world = pruned c.world }

-- refused or not
abbrev pub finished : Course → After
finished c = ended c.stop c

-- "(0 and 0 with 1)"
unfoldable pub maintain_call : World → After
maintain_call w =
    after (decide (refused1 w gives Limits ∷ []))
    (λ (r : Refusal). record { answer = maintain_given (Err (stopped_with r 0 0)); world = w })
    (finished (course_of w))
