-- C: every id that a rewritten group moves is in a new file of the group's generation, in a slot that was empty; the group's own files have no live entry
-- left, and on success their slots are empty.
use Rattle.std.specs.Prelude.{◌≡◌, Some}
use Rattle.rules.specs.Base.{ℕ}
use Rattle.rules.specs.SlotFile.{File, empty, holds}
use Rattle.rules.specs.Table.{lookup}
use Rattle.rules.specs.FileMap.{file_for}
use Rattle.rules.specs.World.{World, records_of, mappings}
use Rattle.theory.specs.Places.{view_at}
use Rattle.theory.specs.Picture.{views_of}

-- the id's location, in a store v: in a file of generation g, in a slot that showed no file in w
pub record Arrived (g : ℕ) (w v : World) (x : ℕ) : Type 0 where
  pub location : ℕ
  pub slot : ℕ
  pub file : File
  pub free : view_at (views_of w) slot ≡ empty
  pub table : lookup (mappings v) x ≡ Some location
  pub found : file_for (records_of v) location ≡ Some slot
  pub shows : view_at (views_of v) slot ≡ holds file
  pub generation : file.label.generation ≡ g
