-- On a store of the invariant each object ends at or before T, header and body: none runs into the trailer.
use Rattle.std.specs.Prelude.{◌≡◌, ◌≤◌, ◌+◌}
use Rattle.rules.specs.Base.{false, ℕ, length, drop}
use Rattle.disk_location.specs.Locations.{position_of, delete_of}
use Rattle.rules.specs.Object.{stored_at}
use Rattle.rules.specs.SlotFile.{File, holds}
use Rattle.rules.specs.TableLaws.{Has}
use Rattle.rules.specs.World.{World}
use Rattle.theory.specs.Places.{view_at}
use Rattle.theory.specs.Picture.{views_of}

-- what stands at each object entry's position, in the file of every slot: position + 20 + length is at most T
abbrev pub BodiesEnd : World → Type 0
BodiesEnd w = (k : ℕ) (f : File) → view_at (views_of w) k ≡ holds f → (x l : ℕ) → Has f.entries x l → delete_of l ≡ false
    → position_of l + (20 + (stored_at (position_of l) (drop (position_of l) f.objects)).size) ≤ f.label.trailer_offset
