-- A file without a line: its objects and entries, test by test.
use Rattle.std.specs.Prelude.{◌≡◌, ◌<◌, ◌≤◌, ◌+◌}
use Rattle.rules.specs.Base.{false, not, List, ℕ, length, get_or}
use Rattle.rules.specs.BaseLaws.{All}
use Rattle.disk_location.specs.Locations.{position_of, delete_of, raw_of}
use Rattle.checksum.specs.Checksum.{object_sum}
use Rattle.rules.specs.Object.{Stored, objects_in}
use Rattle.rules.specs.SlotFile.{File}
use Rattle.rules.specs.TableLaws.{Has}
use Rattle.theory.specs.Types.{Entry}
use Rattle.theory.specs.Sound.{StartsAt}
use Rattle.check_theory.specs.Types.{Fault}
use Rattle.faults.specs.Faults.{line}

-- no line
abbrev pub NoLine : Fault → Type 0
NoLine x = ⊥

-- ---- an object's tests
-- no line: it does not pass T, its checksum is right, an entry is its own
pub record Faultless (es : List Entry) (o : Stored) : Type 0 where
  pub within : 20 + o.size ≤ o.room
  pub checksum : o.checksum ≡ object_sum o.id o.body
  pub entry : Has es o.id (raw_of o.position false)

-- no line of a file: its objects and its entries tell the same
pub record FaultlessFile (f : File) : Type 0 where
  pub objects : All (Faultless f.entries) (objects_in f.objects)
  pub entries : (x l : ℕ) → Has f.entries x l → delete_of l ≡ false → StartsAt (objects_in f.objects) x (position_of l)

-- ---- "A repeated id in one trailer needs strictly rising positions."
-- entry i of a trailer
abbrev pub entry_at : List Entry → ℕ → Entry
entry_at es i = get_or es i (record { id = 0; location = 0 })

-- of two entries of one id the later one stands above the earlier
abbrev pub RepeatsRise : List Entry → Type 0
RepeatsRise es = (i j : ℕ) → i < j → j < length es → (entry_at es i).id ≡ (entry_at es j).id → position_of (entry_at es i).location < position_of (entry_at es j).location
