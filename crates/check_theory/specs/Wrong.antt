-- Request P5, "The list is empty exactly if none of this holds": said in the paper's words.
use Rattle.std.specs.Prelude.{◌≡◌, ◌<◌, ◌≤◌, ◌+◌, ◌-◌}
use Rattle.rules.specs.Base.{false, List, ℕ}
use Rattle.rules.specs.BaseLaws.{All}
use Rattle.disk_location.specs.Locations.{position_of, delete_of, raw_of}
use Rattle.checksum.specs.Checksum.{object_sum}
use Rattle.rules.specs.Object.{Stored, objects_in}
use Rattle.rules.specs.SlotFile.{File, damaged, holds}
use Rattle.rules.specs.TableLaws.{Has}
use Rattle.rules.specs.Layout.{Table, capacity_of}
use Rattle.theory.specs.Types.{Settings, Refusal}
use Rattle.theory.specs.Places.{view_at, Apart}
use Rattle.theory.proofs.Files.{undamaged}
use Rattle.theory.specs.Sound.{StartsAt}
use Rattle.check_theory.specs.Passing.{slot_views}
use Rattle.check_theory.specs.Objects.{RepeatsRise}
use Rattle.check_theory.specs.Ids.{IdsFit}

-- none of request P5's conditions holds, sentence by sentence
pub record NothingWrong (s : Settings) (heap : List ℕ) (table : Table) : Type 0 where
  -- "In a slot the first failure of 8 to 13 ..": no slot fails one of these
  pub undamaged : (k : ℕ) (r : Refusal) → view_at (slot_views s heap) k ≡ damaged r → ⊥
  -- ".. and 15": "A repeated id in one trailer needs strictly rising positions"
  pub rising : (k : ℕ) (f : File) → view_at (slot_views s heap) k ≡ holds f → RepeatsRise f.entries
  -- "one whose header or body passes T": of the objects, walked from 0 by their lengths, none does
  pub within : (k : ℕ) (f : File) → view_at (slot_views s heap) k ≡ holds f
      → All (λ (o : Stored). o.position + (20 + o.size) ≤ f.label.trailer_offset) (objects_in f.objects)
  -- "10 for a bad checksum": each has the right one
  pub checksums : (k : ℕ) (f : File) → view_at (slot_views s heap) k ≡ holds f → All (λ (o : Stored). o.checksum ≡ object_sum o.id o.body) (objects_in f.objects)
  -- "17 for no object entry of its id at that position": each has one
  pub entered : (k : ℕ) (f : File) → view_at (slot_views s heap) k ≡ holds f → All (λ (o : Stored). Has f.entries o.id (raw_of o.position false)) (objects_in f.objects)
  -- "17 .. for each object entry at whose position no walked object of its id starts": at each one starts
  pub stored : (k : ℕ) (f : File) → view_at (slot_views s heap) k ≡ holds f
      → (x l : ℕ) → Has f.entries x l → delete_of l ≡ false → StartsAt (objects_in f.objects) x (position_of l)
  -- "a sound slot whose range meets an earlier sound one's": of no two slots do masked ranges, both ends counted, meet
  pub apart : (j k : ℕ) (f g : File) → view_at (slot_views s heap) j ≡ holds f → view_at (slot_views s heap) k ≡ holds g → j < k → Apart f g
  -- "More distinct ids in sound slots than the table holds": ids that differ, each in some trailer, are no more than the table's entries
  pub room : IdsFit (capacity_of table) (slot_views s heap)
