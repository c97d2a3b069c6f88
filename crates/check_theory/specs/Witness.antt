-- A heap with every kind of fault, worked out: the lines and their order.
use Rattle.std.specs.Prelude.{◌∷◌, ◌++◌}
use Rattle.rules.specs.Base.{List, [], ℕ, length, replicate, zeros, padded}
use Rattle.numbers.specs.LittleEndian.{le_bytes}
use Rattle.rules.specs.Object.{object_bytes}
use Rattle.rules.specs.Trailer.{trailer_bytes}
use Rattle.rules.specs.Label.{label_bytes}
use Rattle.rules.specs.Claims.{no_claims}
use Rattle.rules.specs.World.{World, no_state}
use Rattle.theory.specs.Types.{Entry, Label}

-- a slot of 256 bytes: label, objects, trailer, zeros
abbrev slot_with : ℕ → List ℕ → List Entry → List ℕ
slot_with lsn objects es =
    let file = objects ++ trailer_bytes es in
    let label : Label = record { lsn = lsn; trailer_offset = length objects; file_size = length file; present_objects = length es; generation = 0 } in
    padded 256 (label_bytes label ++ file)

-- the label is not in shortest form
abbrev wrong_label : List ℕ
wrong_label = padded 256 (0x80 ∷ 0x00 ∷ [])

-- masked 30..91: 5 as it should be; 6 at 21 with checksum 0 and no entry; 7 at 41 of 9 bytes, of which none is there
abbrev three_objects : List ℕ
three_objects =
    slot_with 30 (object_bytes 5 (0x41 ∷ []) ++ ((le_bytes 4 0 ++ (le_bytes 8 6 ++ le_bytes 8 0)) ++ (le_bytes 4 0 ++ (le_bytes 8 7 ++ le_bytes 8 9))))
    (record { id = 5; location = 0 } ∷ record { id = 7; location = 82 } ∷ [])

-- masked 10..30: 9 is stored, and entered as a delete
abbrev earlier_range : List ℕ
earlier_range = slot_with 10 (object_bytes 9 []) (record { id = 9; location = 1 } ∷ [])

-- masked 10..10: 3 is deleted
abbrev one_delete : List ℕ
one_delete = slot_with 10 [] (record { id = 3; location = 1 } ∷ [])

-- 4 is deleted twice at one position
abbrev repeated : List ℕ
repeated = slot_with 200 [] (record { id = 4; location = 1 } ∷ record { id = 4; location = 1 } ∷ [])

-- a table of three entries
abbrev pub faulty : World
faulty = record {
  settings = record { slot_bytes = 256; file_compaction_percent = 75; min_compaction_files = 2; target_file_size = 100; small_file_cleanup_threshold = 64; max_object_size = 100 };
  state = no_state;
  claims = no_claims;
  heap = wrong_label ++ (three_objects ++ (earlier_range ++ (one_delete ++ repeated)));
  table = replicate 6 0;
}
