-- While a group is rewritten an id keeps its location, in the same file; or it is one that the group moves, and then it is mapped into a slot
-- that was empty.
use Rattle.std.specs.Prelude.{◌≡◌, Some}
use Rattle.rules.specs.Base.{ℕ}
use Rattle.rules.specs.SlotFile.{empty}
use Rattle.rules.specs.Table.{lookup}
use Rattle.rules.specs.FileMap.{file_for}
use Rattle.rules.specs.World.{World, records_of, mappings}
use Rattle.theory.specs.Places.{view_at}
use Rattle.theory.specs.Picture.{views_of}

-- the id's location, if it has one, and the file there are as they were
pub record Left (w v : World) (x : ℕ) : Type 0 where
  pub table : lookup (mappings v) x ≡ lookup (mappings w) x
  pub file : (l : ℕ) → lookup (mappings w) x ≡ Some l → file_for (records_of v) l ≡ file_for (records_of w) l

-- the id's location is in a slot that showed no file
pub record Anew (w v : World) (x : ℕ) : Type 0 where
  pub location : ℕ
  pub slot : ℕ
  pub table : lookup (mappings v) x ≡ Some location
  pub file : file_for (records_of v) location ≡ Some slot
  pub free : view_at (views_of w) slot ≡ empty
