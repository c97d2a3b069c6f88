-- "Table.": the used entries as a list, whatever the buffer looks like.
use Rattle.std.specs.Prelude.{◌&&◌, ◌∷◌, None, Some}
use Rattle.rules.specs.Base.{Bool, true, false, List, [], ℕ, length, leb, ltb, eqb, pick}
use Rattle.rules.specs.Types.{Entry, Held, Loaded, At, DeletedAt, Never}
use Rattle.disk_location.specs.Locations.{delete_of}

-- what stands past the last entry
abbrev pub no_entry : Entry
no_entry = record { id = 0; location = 0 }

-- what the table has for an id
unfoldable pub lookup : List Entry → ℕ → Held
lookup [] x = None
lookup (e ∷ es) x = pick (eqb e.id x) (Some e.location) (lookup es x)

-- a delete told from an object, by the mark of what is held
abbrev pub loaded_of : Held → Loaded
loaded_of (Some l) = pick (delete_of l) (DeletedAt l) (At l)
loaded_of None = Never

-- request P1: "the table's load says which"
abbrev pub load : List Entry → ℕ → Loaded
load es x = loaded_of (lookup es x)

-- "never written"
abbrev pub never_written : Loaded → Bool
never_written (At l) = false
never_written (DeletedAt l) = false
never_written Never = true

-- at that very location, an object or a delete
abbrev pub current_at : Loaded → ℕ → Bool
current_at (At l) m = eqb l m
current_at (DeletedAt l) m = eqb l m
current_at Never m = false

-- "store": the id's entry replaced, or put before the first of a greater id
unfoldable pub insert : List Entry → Entry → List Entry
insert [] n = n ∷ []
insert (e ∷ es) n = pick (ltb e.id n.id) (e ∷ insert es n) (pick (eqb e.id n.id) (n ∷ es) (n ∷ e ∷ es))

-- stored one after the other
unfoldable pub insert_all : List Entry → List Entry → List Entry
insert_all es [] = es
insert_all es (n ∷ ns) = insert_all (insert es n) ns

-- "an unmapped id"
abbrev pub unmapped : Held → Bool
unmapped (Some l) = false
unmapped None = true

-- held at that very location
abbrev pub mapped_to : Held → ℕ → Bool
mapped_to (Some l) m = eqb l m
mapped_to None m = false

-- "a new id in a full table"
unfoldable pub full : List Entry → ℕ → ℕ → Bool
full es capacity x = unmapped (lookup es x) && leb capacity (length es)
