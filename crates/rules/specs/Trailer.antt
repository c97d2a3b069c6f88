-- "File bytes": the trailer.
use Rattle.std.specs.Prelude.{◌∷◌, ◌++◌, ◌+◌, ◌*◌}
use Rattle.rules.specs.Base.{Bool, not, List, [], ℕ, zero, suc, length, take, drop, ltb, eqb, each, pick}
use Rattle.rules.specs.Types.{Entry, TrailerShort, Checksum, EntryCount}
use Rattle.numbers.specs.LittleEndian.{le_bytes, le_value}
use Rattle.checksum.specs.Checksum.{crc32}
use Rattle.disk_location.specs.Locations.{position_of, delete_of, raw_of}
use Rattle.rules.specs.Refusal.{Test, ◌gives◌}

-- "A relative location plus a file's lsn is an absolute one."
abbrev pub absolute : ℕ → Entry → Entry
absolute lsn e = record { id = e.id; location = raw_of (position_of e.location + lsn) (delete_of e.location) }

-- "per entry id 8 and raw relative location 8"
abbrev pub entry_bytes : Entry → List ℕ
entry_bytes e = le_bytes 8 e.id ++ le_bytes 8 e.location

-- "entry count 8; per entry .."
unfoldable pub listed : List Entry → List ℕ
listed es = le_bytes 8 (length es) ++ each entry_bytes es

-- "checksum 4, over all that follows it"
unfoldable pub trailer_bytes : List Entry → List ℕ
trailer_bytes es = le_bytes 4 (crc32 (listed es)) ++ listed es

-- "entry count 8"
abbrev pub count_in : List ℕ → ℕ
count_in trailer = le_value (take 8 (drop 4 trailer))

-- "trailer (9, 10, 11)": "9 trailer under 20 bytes", "10 checksum", "11 12 + 16 × count over trailer length"
unfoldable pub trailer_tests : List ℕ → List Test
trailer_tests trailer =
    ltb (length trailer) 20 gives TrailerShort
    ∷ not (eqb (le_value (take 4 trailer)) (crc32 (drop 4 trailer))) gives Checksum
    ∷ ltb (length trailer) (12 + 16 * count_in trailer) gives EntryCount
    ∷ []

-- k entries, "id 8 and raw relative location 8"
unfoldable pub entries_from : ℕ → List ℕ → List Entry
entries_from zero bytes = []
entries_from (suc k) [] = []
entries_from (suc k) (b ∷ bs) =
    record { id = le_value (take 8 (b ∷ bs)); location = le_value (take 8 (drop 8 (b ∷ bs))) }
    ∷ entries_from k (drop 16 (b ∷ bs))

-- as many entries as the count says; "Later bytes are checksummed and otherwise ignored"
unfoldable pub entries_in : List ℕ → List Entry
entries_in trailer = entries_from (count_in trailer) (drop 12 trailer)

-- "12 entry position over T", of one entry; "An object entry needs its position + 20 to be at most T; only a delete may stand at T."
unfoldable pub misplaced : ℕ → Entry → Bool
misplaced offset e = pick (delete_of e.location) (ltb offset (position_of e.location)) (ltb offset (position_of e.location + 20))
