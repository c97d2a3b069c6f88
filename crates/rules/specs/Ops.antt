-- Operations on ids, and the file that a list of them makes ("File bytes").
use Rattle.rules.specs.Types.{Entry}
use Rattle.std.specs.Prelude.{◌∷◌, ◌++◌, ◌+◌}
use Rattle.rules.specs.Base.{Bool, true, false, List, [], ℕ, length, ltb, eqb, pick, each}
use Rattle.disk_location.specs.Locations.{raw_of, shard_of}
use Rattle.rules.specs.Object.{object_bytes}
use Rattle.rules.specs.Trailer.{trailer_bytes}

-- "tag 0 (delete) or 1 (put)"
pub data Content : Type 0 where
  put : List ℕ → Content
  delete : Content

-- an operation on an id
pub record Op : Type 0 where
  pub id : ℕ
  pub content : Content

-- the delete mark
abbrev pub is_delete : Content → Bool
is_delete (put body) = false
is_delete delete = true

-- "the shard number is how many bits the length needs, 0 for length 0 and for a delete"
abbrev pub shard_for : Content → ℕ
shard_for (put body) = shard_of (length body)
shard_for delete = 0

-- "an object adds 20 + length, a delete 0"
abbrev pub size_of : Content → ℕ
size_of (put body) = 20 + length body
size_of delete = 0

-- "Deletes have no object bytes."
abbrev pub content_bytes : ℕ → Content → List ℕ
content_bytes id (put body) = object_bytes id body
content_bytes id delete = []

-- the object bytes, "ids ascending"
unfoldable pub objects_of : List Op → List ℕ
objects_of ops = each (λ (o : Op). content_bytes o.id o.content) ops

-- "A delete's relative position is the object bytes before it in that order", and an object's too
unfoldable pub entries_of : ℕ → List Op → List Entry
entries_of position [] = []
entries_of position (o ∷ os) =
    record { id = o.id; location = raw_of position (is_delete o.content) }
    ∷ entries_of (position + size_of o.content) os

-- objects, then the trailer; T is `length (objects_of ops)`, "the total of object bytes"
unfoldable pub file_bytes : List Op → List ℕ
file_bytes ops = objects_of ops ++ trailer_bytes (entries_of 0 ops)

-- an operation joins later ones, which are kept ascending by id: it counts only where they have none on its id
unfoldable pub joined : Op → List Op → List Op
joined o [] = o ∷ []
joined o (p ∷ ps) = pick (ltb o.id p.id) (o ∷ p ∷ ps) (pick (eqb o.id p.id) (p ∷ ps) (p ∷ joined o ps))

-- "The last operation on an id counts."; "ids ascending"
unfoldable pub settled : List Op → List Op
settled [] = []
settled (o ∷ os) = joined o (settled os)
