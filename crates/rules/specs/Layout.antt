-- The table's one buffer: the only file that knows where an id and a location lie in it.
use Rattle.rules.specs.Types.{Entry}
use Rattle.std.specs.Prelude.{◌&&◌, ◌∷◌, ◌/◌, ◌%◌}
use Rattle.rules.specs.Base.{Bool, false, List, [], map, ℕ, suc, length, replicate, leb, eqb, pick, zeros, padded, within}

-- "one buffer of alternating id and location": its words
abbrev pub Table : Type 0
Table = List ℕ

-- the ids of all its places: place k has its id at word 2k; a last word of its own is in no place
unfoldable pub table_ids : Table → List ℕ
table_ids [] = []
table_ids (i ∷ []) = []
table_ids (i ∷ l ∷ ws) = i ∷ table_ids ws

-- the locations likewise, at word 2k + 1
unfoldable pub table_locations : Table → List ℕ
table_locations [] = []
table_locations (i ∷ []) = []
table_locations (i ∷ l ∷ ws) = l ∷ table_locations ws

-- ids and locations in turn
unfoldable pub alternating : List ℕ → List ℕ → Table
alternating [] ls = []
alternating (i ∷ is) [] = []
alternating (i ∷ is) (l ∷ ls) = i ∷ l ∷ alternating is ls

-- "the table's length": its entries, "twice the length" in words
abbrev pub capacity_of : Table → ℕ
capacity_of b = length b / 2

-- "table entries 1..65,536"; "1 also for an odd length"
unfoldable pub lengths_in_range : Table → Bool
lengths_in_range b = eqb (length b % 2) 0 && within 1 65536 (capacity_of b)

-- "used entries first, ids strictly rising, unused entries 0 (location 0 means unused)": from a least id on
unfoldable pub form_from : ℕ → List ℕ → List ℕ → Bool
form_from least [] ls = zeros ls
form_from least (i ∷ is) [] = false
form_from least (i ∷ is) (l ∷ ls) = pick (eqb l 0) (zeros (i ∷ is) && zeros ls) (leb least i && form_from (suc i) is ls)

-- "a table .. in the form above"
unfoldable pub in_form : Table → Bool
in_form b = form_from 0 (table_ids b) (table_locations b)

-- entries up to the first location 0
unfoldable pub used_in : List ℕ → List ℕ → List Entry
used_in [] ls = []
used_in (i ∷ is) [] = []
used_in (i ∷ is) (l ∷ ls) = pick (eqb l 0) [] (record { id = i; location = l } ∷ used_in is ls)

-- the used entries
unfoldable pub used_entries : Table → List Entry
used_entries b = used_in (table_ids b) (table_locations b)

-- a buffer of n entries that holds just these
unfoldable pub laid_out : ℕ → List Entry → Table
laid_out n es = alternating (padded n (map (λ (e : Entry). e.id) es)) (padded n (map (λ (e : Entry). e.location) es))

-- "zeroes the one buffer"
abbrev pub cleared : Table → Table
cleared b = replicate (length b) 0
