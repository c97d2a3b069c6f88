-- A file's objects against its entries, and its entries against the objects walked.
use Rattle.std.specs.Prelude.{◌≡◌, ◌&&◌, ◌≤◌, ◌<◌, ◌++◌}
use Rattle.std.proofs.Math.Bool.{Bool, not}
use Rattle.rules.specs.Base.{List, [], ℕ, eqb, any, keep}
use Rattle.disk_location.specs.Locations.{position_of, delete_of}
use Rattle.rules.specs.Object.{Stored}
use Rattle.stored_object.specs.Objects.{objects_at}
use Rattle.faults.specs.Faults.{line, line_if, passes, entered}
use Rattle.file_faults.specs.Types.{Entry, Checksum, OtherId, Object, Fault}

-- ---- definitions
-- an "object entry of its id at that position", by the two numbers
abbrev pub entered_as : ℕ → ℕ → Entry → Bool
entered_as id position e = eqb e.id id && not (delete_of e.location) && eqb (position_of e.location) position

-- a walked object's lines: 10, then 17
abbrev pub object_lines : ℕ → ℕ → Bool → Bool → List Fault
object_lines slot position bad missing = line_if bad (line slot Checksum (Object position)) ++ line_if missing (line slot OtherId (Object position))

-- the objects walked from a position on
unfoldable pub walked_from : List ℕ → ℕ → List Stored
walked_from objects position = keep (λ (o : Stored). not (passes o)) (objects_at objects position)

-- one of them starts at an object entry's position and has its id
abbrev pub meets_one : Entry → List Stored → Bool
meets_one e os = any (λ (o : Stored). entered o e) os

-- an "object entry at whose position no walked object of its id starts"
abbrev pub unmet : List ℕ → Entry → Bool
unmet objects e = not (delete_of e.location) && not (meets_one e (walked_from objects 0))

-- a position up to which no entry from there on is met
abbrev pub Start : List ℕ → ℕ → Type 0
Start objects at = (e : Entry) → at ≤ position_of e.location → meets_one e (walked_from objects at) ≡ meets_one e (walked_from objects 0)

-- what an entry at a position meets is met from there on
abbrev pub Same : List ℕ → ℕ → ℕ → Type 0
Same objects position at = (e : Entry) → position_of e.location ≡ position → meets_one e (walked_from objects at) ≡ meets_one e (walked_from objects 0)

-- how far the walk went for a position; where that is before it, the walk has ended
pub record Gone (objects : List ℕ) (position at : ℕ) : Type 0 where
  pub start : Start objects at
  pub same : Same objects position at
  pub ended : at < position → walked_from objects at ≡ []
