-- Small worlds in which several conditions of a call hold at once: slots of 128 bytes, a table of one entry or two.
use Rattle.std.specs.Prelude.{◌∷◌, ◌++◌, ◌+◌, ◌-◌, ◌*◌}
use Rattle.rules.specs.Base.{List, [], ℕ, length, get_or, replicate, padded}
use Rattle.theory.specs.Types.{Settings, Label, Record, State}
use Rattle.numbers.specs.LittleEndian.{le_bytes}
use Rattle.checksum.specs.Checksum.{crc32, object_sum}
use Rattle.rules.specs.Object.{object_bytes}
use Rattle.rules.specs.Trailer.{trailer_bytes}
use Rattle.rules.specs.Label.{label_bytes}
use Rattle.rules.specs.Layout.{Table, capacity_of}
use Rattle.rules.specs.FileMap.{recorded, empty_record}
use Rattle.rules.specs.Claims.{no_claims}
use Rattle.rules.specs.World.{World, records_of, no_state}
use Rattle.rules.specs.Lines.{mapping}

-- slots of 128 bytes; every file with something live is a candidate, and one is a group; objects of 16 bytes at most
abbrev pub settings : Settings
settings = record { slot_bytes = 128; file_compaction_percent = 0; min_compaction_files = 1; target_file_size = 1048576; small_file_cleanup_threshold = 0; max_object_size = 17 }

-- ---- a table
-- no entry used, of one
abbrev pub none : Table
none = 0 ∷ 0 ∷ []

-- an id at a location, and no room for another
abbrev pub one : ℕ → ℕ → Table
one id location = id ∷ location ∷ []

-- two
abbrev pub two : ℕ → ℕ → ℕ → ℕ → Table
two id location jd mocation = id ∷ location ∷ jd ∷ mocation ∷ []

-- the unused entry stands first: not in form
abbrev pub no_form : Table
no_form = 0 ∷ 0 ∷ 5 ∷ 40 ∷ []

-- ---- files
-- a label of generation 0
abbrev pub labelled : ℕ → ℕ → ℕ → ℕ → Label
labelled lsn offset size present = record { lsn = lsn; trailer_offset = offset; file_size = size; present_objects = present; generation = 0 }

-- bytes behind their own checksum
abbrev pub summed : List ℕ → List ℕ
summed bytes = le_bytes 4 (crc32 bytes) ++ bytes

-- bytes behind another
abbrev pub mis_summed : List ℕ → List ℕ
mis_summed bytes = le_bytes 4 (crc32 bytes + 1) ++ bytes

-- an object's header with a checksum that is not its own: id, length
abbrev pub bad_header : ℕ → ℕ → List ℕ
bad_header id size = le_bytes 4 (object_sum id [] + 1) ++ (le_bytes 8 id ++ le_bytes 8 size)

-- a slot: label and file, zeros behind them
abbrev pub slot : Label → List ℕ → List ℕ
slot l file = padded 128 (label_bytes l ++ file)

-- a file: objects, then trailer; its label by an lsn and a count
abbrev pub label_of : ℕ → ℕ → List ℕ → List ℕ → Label
label_of lsn present objects trailer = labelled lsn (length objects) (length objects + length trailer) present

-- ---- worlds
-- records in the first slots, empty ones behind
abbrev pub records : List Record → List Record
records rs = rs ++ replicate (256 - length rs) empty_record

-- the state of a heap and a table
abbrev pub state : List Record → ℕ → List ℕ → Table → State
state rs next heap table = record {
  settings = settings;
  heap_len = length heap;
  table_len = capacity_of table;
  files = record { records = records rs };
  next_position = next;
}

-- a world of records, a next position, a heap and a table
abbrev pub holding : List Record → ℕ → List ℕ → Table → World
holding rs next heap table = record { settings = settings; state = state rs next heap table; claims = no_claims; heap = heap; table = table }

-- the same, called with a setting that is not the state's
abbrev pub mismatched : World → World
mismatched w = record {
  settings = record { slot_bytes = 128; file_compaction_percent = 1; min_compaction_files = 1; target_file_size = 1048576; small_file_cleanup_threshold = 0; max_object_size = 17 };
  state = w.state;
  claims = w.claims;
  heap = w.heap;
  table = w.table;
}

-- of a slot: lsn, generation, live and the first byte
abbrev pub seen_at : World → ℕ → List ℕ
seen_at w k =
    let r = get_or (records_of w) k empty_record in
    r.label.lsn ∷ r.label.generation ∷ r.live ∷ get_or w.heap (k * 128) 0 ∷ []

-- ---- for a write
-- one slot, taken; a full table, of id 1
abbrev pub busy : ℕ → World
busy next = holding (recorded (labelled 10 20 48 1) 1 1 ∷ []) next (replicate 128 0) (one 1 20)

-- an empty slot behind it
abbrev pub idle : ℕ → World
idle next = holding (recorded (labelled 10 20 48 1) 1 1 ∷ []) next (replicate 256 0) (one 1 20)

-- a put of 17 bytes, of id 2
abbrev pub too_large : List ℕ
too_large = 0x02 ∷ 0x01 ∷ 17 ∷ replicate 17 0x41

-- puts of no bytes of ids 2 and 3: a file of 84
abbrev pub two_puts : List ℕ
two_puts = 0x02 ∷ 0x01 ∷ 0x00 ∷ 0x03 ∷ 0x01 ∷ 0x00 ∷ []

-- one put of no bytes: a file of 48, of which 20 are object bytes
abbrev pub one_put : ℕ → List ℕ
one_put id = id ∷ 0x01 ∷ 0x00 ∷ []

-- ---- for a read
-- a file of one object, of lsn 10; id 5 at a location
abbrev pub filed : List ℕ → ℕ → World
filed object location =
    let trailer = trailer_bytes (mapping 5 0 ∷ []) in
    let label = label_of 10 1 object trailer in
    holding (recorded label 1 1 ∷ []) 100 (slot label (object ++ trailer)) (one 5 location)

-- ---- for a group
-- 19 bytes of an object's header, with a length that is too great
abbrev pub cut_header : List ℕ
cut_header = le_bytes 4 0 ++ (le_bytes 8 9 ++ le_bytes 7 17)

-- a file of lsn 1, with an empty slot behind it; id 1 at its first object
abbrev pub alone : List ℕ → List ℕ → World
alone objects trailer =
    let label = label_of 1 1 objects trailer in
    holding (recorded label 1 1 ∷ []) 100 (slot label (objects ++ trailer) ++ replicate 128 0) (one 1 2)

-- objects 1 and 2, of no bytes, in two files that fill the heap
abbrev pub pair : List ℕ → List ℕ → ℕ → World
pair first second next =
    let a = label_of 1 1 (object_bytes 1 []) first in
    let b = label_of 100 1 (object_bytes 2 []) second in
    holding (recorded a 1 1 ∷ recorded b 1 1 ∷ []) next (slot a (object_bytes 1 [] ++ first) ++ slot b (object_bytes 2 [] ++ second)) (two 1 2 2 200)

-- object 1 in a file; `more` is the heap behind it
abbrev pub moving : List ℕ → ℕ → World
moving more next =
    let trailer = trailer_bytes (mapping 1 0 ∷ []) in
    let label = label_of 1 1 (object_bytes 1 []) trailer in
    holding (recorded label 1 1 ∷ []) next (slot label (object_bytes 1 [] ++ trailer) ++ more) (one 1 2)

-- ---- for a reopening
-- a slot without objects: lsn, present_objects, trailer
abbrev pub trailing : ℕ → ℕ → List ℕ → List ℕ
trailing lsn present trailer = slot (labelled lsn 0 (length trailer) present) trailer

-- id 3 deleted twice at one position
abbrev pub twice : List ℕ
twice = trailing 50 2 (trailer_bytes (mapping 3 1 ∷ mapping 3 1 ∷ []))

-- a slot at that position or another, with one delete
abbrev pub deleting : ℕ → ℕ → List ℕ
deleting lsn id = trailing lsn 1 (trailer_bytes (mapping id 1 ∷ []))

-- a heap to be reopened with a table
abbrev pub closed : List ℕ → Table → World
closed heap table = record { settings = settings; state = no_state; claims = no_claims; heap = heap; table = table }

-- three slots: the last two overlap, one of them repeats an id, and a table of one entry has no room for their ids
abbrev pub behind : List ℕ → World
behind first = closed (first ++ (twice ++ deleting 50 4)) none
