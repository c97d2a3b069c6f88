-- W: a file that a call adds stands in the lowest empty slot as it was meant, and nothing else of the heap changes.
use Rattle.std.specs.Prelude.{◌≡◌, ◌∷◌, ◌*◌}
use Rattle.rules.specs.Base.{false, List, [], ℕ, length, set, drop}
use Rattle.numbers.specs.Parts.{put_at}
use Rattle.rules.specs.Refusal.{NoneHolds}
use Rattle.rules.specs.Object.{stored_at}
use Rattle.rules.specs.ObjectLaws.{stored_object}
use Rattle.rules.specs.TrailerLaws.{WellPlaced}
use Rattle.rules.specs.Ops.{put, Op, objects_of, entries_of, file_bytes}
use Rattle.rules.specs.OpsLaws.{Stands}
use Rattle.rules.specs.Batch.{any_too_large}
use Rattle.rules.specs.SlotFile.{empty, holds}
use Rattle.rules.specs.TableLaws.{Has}
use Rattle.rules.specs.WrittenLaws.{slot_file, file_of_ops}
use Rattle.rules.specs.Read.{object_tests}
use Rattle.rules.specs.Install.{new_slot, new_lsn, installed}
use Rattle.rules.specs.World.{World}
use Rattle.theory.specs.Places.{view_at}
use Rattle.theory.specs.Picture.{views_of}
use Rattle.theory.specs.Sound.{SmallFile}

-- the file of these operations, added to w: bit is the batch bit or 0, g the generation
pub record Stood (bit g : ℕ) (w : World) (os : List Op) : Type 0 where
  -- the slot showed no file
  pub free : view_at (views_of w) (new_slot w) ≡ empty
  -- it shows the file that was written, every other slot what it showed
  pub views : views_of (installed bit g w os) ≡ set (views_of w) (new_slot w) (holds (file_of_ops (new_lsn bit w) g os))
  -- label and file stand at the slot's start; the heap's bytes before and behind them are as they were
  pub heap : (installed bit g w os).heap ≡ put_at w.heap (new_slot w * w.settings.slot_bytes) (slot_file (new_lsn bit w) g os)
  -- no entry's position is over T, nor an object's position + 20
  pub inside : (x l : ℕ) → Has (entries_of 0 os) x l → WellPlaced (length (objects_of os)) l
  -- each put is read at its position with its id and body, and none of 16, 10, 17 refuses it
  pub objects : (x : ℕ) (body : List ℕ) (p : ℕ) → Stands 0 os x (put body) p
      → (behind : ℕ) × (stored_at p (drop p (file_bytes os)) ≡ stored_object p x body behind) × NoneHolds (object_tests x (stored_object p x body behind))
  -- no object is larger than the operations' bodies
  pub small : (limit : ℕ) → any_too_large limit os ≡ false → SmallFile limit (file_of_ops (new_lsn bit w) g os)

-- file by file
abbrev pub AllStood : ℕ → ℕ → World → List (List Op) → Type 0
AllStood bit g w [] = Unit {0}
AllStood bit g w (f ∷ fs) = Stood bit g w f × AllStood bit g (installed bit g w f) fs
