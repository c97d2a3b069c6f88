-- "Lines to hold, both sides": lines P1 to P10, and the default of request P10; one table and one proved statement.
use Rattle.std.specs.Prelude.{◌&&◌, ◌∷◌, ◌++◌, ◌+◌, ◌-◌, ◌^◌, None, Some}
use Rattle.rules.specs.Base.{Bool, true, false, List, [], map, ℕ, length, replicate, eqb, zeros, each}
use Rattle.rules.specs.Types.{Entry, Record, Settings}
use Rattle.numbers.specs.Groups.{groups_of, number_in}
use Rattle.numbers.specs.Answers.{Number}
use Rattle.disk_location.specs.Locations.{raw_of}
use Rattle.rules.specs.Settings.{defaults}
use Rattle.rules.specs.Ops.{put, Op, shard_for}
use Rattle.rules.specs.SlotFile.{bytes_of_slot, trailer_entries}
use Rattle.rules.specs.World.{World, records_of, no_state, Given}
use Rattle.rules.specs.Positions.{relative_given, absolute_given}
use Rattle.rules.specs.FileMap.{recorded, record_at}
use Rattle.rules.specs.Write.{write_call}
use Rattle.rules.specs.Maintenance.{live_percent, worth_it, new_generation, files_of}
use Rattle.rules.specs.Claims.{no_claims}
use Rattle.rules.specs.Reopen.{latest_of, reopen_call}
use Rattle.rules.specs.Listing.{listing}

-- a line of the paper: what the definitions give, what it says
pub record Line : Type 0 where
  pub ours : List ℕ
  pub paper : List ℕ

-- the refusal number or 0, then the values
abbrev pub told : Given → List ℕ
told g = g.number ∷ g.values

-- the number, or nothing where it is refused
abbrev pub said : Number → List ℕ
said (Some (v, at)) = v ∷ []
said None = []

-- 1 for yes
abbrev pub bit : Bool → ℕ
bit true = 1
bit false = 0

-- an id at a location
abbrev pub mapping : ℕ → ℕ → Entry
mapping id location = record { id = id; location = location }

-- a file with so many live of so many
abbrev pub lived : ℕ → ℕ → Record
lived live present = recorded (record { lsn = 1; trailer_offset = 0; file_size = 0; present_objects = present; generation = 0 }) live 0

-- "at 75": the defaults but for the percentage, which a line of document 01 names itself
abbrev pub at_percent : ℕ → Settings
at_percent percent = record {
  slot_bytes = defaults.slot_bytes;
  file_compaction_percent = percent;
  min_compaction_files = defaults.min_compaction_files;
  target_file_size = defaults.target_file_size;
  small_file_cleanup_threshold = defaults.small_file_cleanup_threshold;
  max_object_size = defaults.max_object_size;
}

-- its live percentage, and whether these settings make it a candidate for that
abbrev pub judged : Settings → Record → List ℕ
judged s r = live_percent r ∷ bit (worth_it s 2 r) ∷ []

-- a put of so many bytes
abbrev pub object : ℕ → ℕ → Op
object id size = record { id = id; content = put (replicate size 0) }

-- ids and locations in turn
abbrev pub pairs : List Entry → List ℕ
pairs es = each (λ (e : Entry). e.id ∷ e.location ∷ []) es

-- "fresh store": zeros, just reopened
abbrev pub fresh : World
fresh =
    (reopen_call (record {
      settings = defaults;
      state = no_state;
      claims = no_claims;
      heap = replicate 4096 0;
      table = replicate 8 0;
    })).world

-- "batch 07 01 01 41 09 00"
abbrev pub batch10 : List ℕ
batch10 = 0x07 ∷ 0x01 ∷ 0x01 ∷ 0x41 ∷ 0x09 ∷ 0x00 ∷ []

-- the store after that write
abbrev pub wrote : World
wrote = (write_call fresh batch10).world

-- the entries that stand in slot 0 of its heap
abbrev pub entries10 : World → List Entry
entries10 w = trailer_entries (record_at (records_of w) 0).label (bytes_of_slot w.settings.slot_bytes w.heap 0)

-- the table
unfoldable pub lines : List Line
lines =
    -- line P1 "position 5: raw 10; delete: 11"
    record { ours = told (relative_given 5 false) ++ told (relative_given 5 true); paper = 0 ∷ 10 ∷ 0 ∷ 11 ∷ [] }
    -- line P2 "absolute position 0, object: 20; position 0, delete: raw 1"
    ∷ record { ours = told (absolute_given 0 false) ++ told (absolute_given 0 true); paper = 20 ∷ 0 ∷ 1 ∷ [] }
    -- line P3 "position 2^63 − 1, delete: raw 2^64 − 1; 2^63: 20"
    ∷ record { ours = told (absolute_given (2 ^ 63 - 1) true) ++ (told (absolute_given (2 ^ 63) false) ++ told (relative_given (2 ^ 63) true)); paper = 0 ∷ (2 ^ 64 - 1) ∷ 20 ∷ 20 ∷ [] }
    -- line P4 "300 is AC 02; 80 00 is refused"
    ∷ record { ours = groups_of 10 300 ++ (said (number_in 10 (0xac ∷ 0x02 ∷ []) 0) ++ said (number_in 10 (0x80 ∷ 0x00 ∷ []) 0)); paper = 0xac ∷ 0x02 ∷ 300 ∷ [] }
    -- line P5 "masked 205 without the bit is later than masked 101 with it"
    ∷ record {
      ours = pairs (latest_of (mapping 1 (raw_of 205 false) ∷ mapping 1 (raw_of (2 ^ 62 + 101) false) ∷ [])) ++ pairs (latest_of (mapping 1 (raw_of (2 ^ 62 + 101) false) ∷ mapping 1 (raw_of 205 false) ∷ []));
      paper = 1 ∷ 410 ∷ 1 ∷ 410 ∷ [];
    }
    -- line P6 "3 live of 4 at 75: no candidate; 2 of 3 (66): a candidate"
    ∷ record {
      ours = judged (at_percent 75) (lived 3 4) ++ judged (at_percent 75) (lived 2 3);
      paper = 75 ∷ 0 ∷ 66 ∷ 1 ∷ [];
    }
    -- line P7 "generations 0, 3, 255 give 1, 3, 3"
    ∷ record { ours = new_generation 0 ∷ new_generation 3 ∷ new_generation 255 ∷ []; paper = 1 ∷ 3 ∷ 3 ∷ [] }
    -- line P8 "lengths 0, 1, 60, 255, 256: shards 0, 1, 6, 8, 9"
    ∷ record { ours = map (λ (n : ℕ). shard_for (put (replicate n 0))) (0 ∷ 1 ∷ 60 ∷ 255 ∷ 256 ∷ []); paper = 0 ∷ 1 ∷ 6 ∷ 8 ∷ 9 ∷ [] }
    -- line P9 "target 100, ids 1, 2, 3 of 60 bytes each: files {3}, then {1, 2}" (each file's count, then its ids)
    ∷ record {
      ours = each (λ (f : List Op). length f ∷ map (λ (o : Op). o.id) f) (files_of 100 (object 1 60 ∷ object 2 60 ∷ object 3 60 ∷ []));
      paper = 1 ∷ 3 ∷ 2 ∷ 1 ∷ 2 ∷ [];
    }
    -- line P10 "T 21, entries (7, 0) and (9, 43), file_size 65, next position 23; after reopening 67"
    ∷ record {
      ours = (record_at (records_of wrote) 0).label.trailer_offset ∷ (pairs (entries10 wrote) ++ ((record_at (records_of wrote) 0).label.file_size ∷ wrote.state.next_position ∷ (reopen_call wrote).world.state.next_position ∷ []));
      paper = 21 ∷ 7 ∷ 0 ∷ 9 ∷ 43 ∷ 65 ∷ 23 ∷ 67 ∷ [];
    }
    -- line P10: "The listing program prints for P10 exactly"
    ∷ record {
      ours = listing wrote;
      paper = 115 ∷ 108 ∷ 111 ∷ 116 ∷ 32 ∷ 108 ∷ 115 ∷ 110 ∷ 32 ∷ 103 ∷ 101 ∷ 110 ∷ 32 ∷ 112 ∷ 114 ∷ 101 ∷ 115 ∷ 101 ∷ 110 ∷ 116 ∷ 32 ∷ 108 ∷ 105 ∷ 118 ∷ 101 ∷ 32 ∷ 115 ∷ 105 ∷ 122 ∷ 101 ∷ 10 ∷ 48 ∷ 32 ∷ 52 ∷ 54 ∷ 49 ∷ 49 ∷ 54 ∷ 56 ∷ 54 ∷ 48 ∷ 49 ∷ 56 ∷ 52 ∷ 50 ∷ 55 ∷ 51 ∷ 56 ∷ 55 ∷ 57 ∷ 48 ∷ 53 ∷ 32 ∷ 48 ∷ 32 ∷ 50 ∷ 32 ∷ 50 ∷ 32 ∷ 54 ∷ 53 ∷ 10 ∷ 105 ∷ 100 ∷ 115 ∷ 32 ∷ 50 ∷ 10 ∷ [];
    }
    -- request P10 "The default of file_compaction_percent becomes 50": 1 live of 2 is no candidate, nor are line P6's 2 of 3 (66); 1 of 3 (33) is
    ∷ record {
      ours = judged defaults (lived 1 2) ++ (judged defaults (lived 2 3) ++ judged defaults (lived 1 3));
      paper = 50 ∷ 0 ∷ 66 ∷ 0 ∷ 33 ∷ 1 ∷ [];
    }
    ∷ []

-- the same numbers
abbrev pub agree : List ℕ → List ℕ → Bool
agree [] [] = true
agree [] (n ∷ ns) = false
agree (m ∷ ms) [] = false
agree (m ∷ ms) (n ∷ ns) = eqb m n && agree ms ns
