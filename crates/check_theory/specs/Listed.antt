-- Request P5, line by line: a line is in the list exactly if what it says is wrong.
use Rattle.std.specs.Prelude.{◌≡◌, ◌<◌, ◌+◌}
use Rattle.rules.specs.Base.{false, List, ℕ, length, each}
use Rattle.disk_location.specs.Locations.{position_of, delete_of, raw_of}
use Rattle.checksum.specs.Checksum.{object_sum}
use Rattle.rules.specs.Object.{Stored, objects_in}
use Rattle.rules.specs.SlotFile.{File, damaged, holds}
use Rattle.rules.specs.TableLaws.{Has}
use Rattle.rules.specs.Layout.{Table, capacity_of}
use Rattle.rules.specs.Reopen.{meets}
use Rattle.theory.specs.Types.{Settings, Refusal, TableRoom, Checksum, Overlap, CutShort, OtherId}
use Rattle.theory.specs.Places.{view_at, Apart}
use Rattle.theory.specs.Sound.{StartsAt}
use Rattle.faults.specs.Faults.{judged_in, line, passes, walked}
use Rattle.check_theory.specs.Types.{Nowhere, Object, Fault}
use Rattle.check_theory.specs.Lists.{In}
use Rattle.check_theory.specs.Ids.{MoreIds}

-- slot k is sound and holds this file
abbrev pub SoundAt : Settings → List ℕ → ℕ → File → Type 0
SoundAt s heap k f = view_at (judged_in s heap) k ≡ holds f

-- "everything wrong", sentence by sentence
pub data IsWrong (s : Settings) (heap : List ℕ) (table : Table) : Fault → Type 0 where
  -- "In a slot the first failure of 8 to 13 and 15"
  own : (k : ℕ) (r : Refusal) → view_at (judged_in s heap) k ≡ damaged r → IsWrong s heap table (line k r Nowhere)
  -- "one whose header or body passes T gives 16"
  cut : (k : ℕ) (f : File) (o : Stored) → SoundAt s heap k f → In (objects_in f.objects) o → f.label.trailer_offset < o.position + (20 + o.size)
      → IsWrong s heap table (line k CutShort (Object o.position))
  -- "10 for a bad checksum"
  sum : (k : ℕ) (f : File) (o : Stored) → SoundAt s heap k f → In (walked f) o → (o.checksum ≡ object_sum o.id o.body → ⊥)
      → IsWrong s heap table (line k Checksum (Object o.position))
  -- "17 for no object entry of its id at that position"
  unentered : (k : ℕ) (f : File) (o : Stored) → SoundAt s heap k f → In (walked f) o → (Has f.entries o.id (raw_of o.position false) → ⊥)
      → IsWrong s heap table (line k OtherId (Object o.position))
  -- "17 .. for each object entry at whose position no walked object of its id starts"
  unstored : (k : ℕ) (f : File) (x l : ℕ) → SoundAt s heap k f → Has f.entries x l → delete_of l ≡ false → (StartsAt (walked f) x (position_of l) → ⊥)
      → IsWrong s heap table (line k OtherId (Object (position_of l)))
  -- "a sound slot whose range meets an earlier sound one's"
  overlap : (j k : ℕ) (f g : File) → SoundAt s heap j f → SoundAt s heap k g → j < k → (Apart f g → ⊥) → IsWrong s heap table (line k Overlap Nowhere)
  -- "More distinct ids in sound slots than the table holds"
  room : MoreIds (capacity_of table) (judged_in s heap) → IsWrong s heap table (line (length (judged_in s heap)) TableRoom Nowhere)
