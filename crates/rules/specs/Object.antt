-- "File bytes": objects.
use Rattle.std.specs.Prelude.{◌∷◌, ◌++◌, ◌+◌}
use Rattle.rules.specs.Base.{Bool, not, List, [], ℕ, zero, suc, length, take, drop, eqb}
use Rattle.numbers.specs.LittleEndian.{le_bytes, le_value}
use Rattle.checksum.specs.Checksum.{object_sum}

-- "Object: checksum 4, id 8, length 8, body; little-endian"; "The checksum is the CRC-32 .. over length, id, body in that order"
unfoldable pub object_bytes : ℕ → List ℕ → List ℕ
object_bytes id body = ((le_bytes 4 (object_sum id body) ++ le_bytes 8 id) ++ le_bytes 8 (length body)) ++ body

-- what stands in an object's place: its position in the file, its header's numbers, the bytes from it on, and its body
pub record Stored : Type 0 where
  pub position : ℕ
  pub checksum : ℕ
  pub id : ℕ
  pub size : ℕ
  pub room : ℕ
  pub body : List ℕ

-- the front of these bytes, read as an object at a position
unfoldable pub stored_at : ℕ → List ℕ → Stored
stored_at position bytes = record {
  position = position;
  checksum = le_value (take 4 bytes);
  id = le_value (take 8 (drop 4 bytes));
  size = le_value (take 8 (drop 12 bytes));
  room = length bytes;
  body = take (le_value (take 8 (drop 12 bytes))) (drop 20 bytes);
}

-- "10 checksum"
unfoldable pub bad_checksum : Stored → Bool
bad_checksum o = not (eqb o.checksum (object_sum o.id o.body))

-- the objects of object bytes, one behind the other by their lengths (at most k of them)
unfoldable pub objects_from : ℕ → ℕ → List ℕ → List Stored
objects_from zero position bytes = []
objects_from (suc k) position [] = []
objects_from (suc k) position (b ∷ bs) =
    stored_at position (b ∷ bs)
    ∷ objects_from k (position + (20 + (stored_at position (b ∷ bs)).size)) (drop (20 + (stored_at position (b ∷ bs)).size) (b ∷ bs))

-- from position 0
unfoldable pub objects_in : List ℕ → List Stored
objects_in bytes = objects_from (length bytes) 0 bytes
