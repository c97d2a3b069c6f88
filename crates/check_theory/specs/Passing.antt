-- A list of lines all of which are such, where no line without a position is: what that says slot by slot, and back.
use Rattle.std.specs.Prelude.{◌≡◌, ◌+◌}
use Rattle.rules.specs.Base.{false, List, [], ℕ, length, ltb, any, each}
use Rattle.rules.specs.BaseLaws.{All}
use Rattle.rules.specs.Settings.{slots_in}
use Rattle.rules.specs.Refusal.{NoneHolds}
use Rattle.rules.specs.SlotFile.{File, View, holds, views_in}
use Rattle.rules.specs.Layout.{Table, capacity_of}
use Rattle.rules.specs.Reopen.{view_tests, files_in, overlapping, not_rising, table_of}
use Rattle.theory.specs.Types.{Settings, Refusal}
use Rattle.theory.specs.Places.{view_at}
use Rattle.check_theory.specs.Types.{Fault, Nowhere}
use Rattle.faults.specs.Faults.{line, file_faults, meets_earlier}

-- what each slot of a heap shows
abbrev pub slot_views : Settings → List ℕ → List View
slot_views s heap = views_in (slots_in s (length heap)) s.slot_bytes heap

-- no line without a position is such
abbrev pub Placed : (Fault → Type 0) → Type 0
Placed P = (slot : ℕ) (r : Refusal) → P (line slot r Nowhere) → ⊥

-- slots from `slot` on, behind the earlier sound files: no slot has a fault of its own, no two ranges meet, and each line of a file is such
pub record Passing (P : Fault → Type 0) (slot : ℕ) (earlier : List File) (views : List View) : Type 0 where
  pub undamaged : NoneHolds (each view_tests views)
  pub rising : any (λ (f : File). not_rising f.entries) (files_in views) ≡ false
  pub behind : any (meets_earlier earlier) (files_in views) ≡ false
  pub clear : overlapping (files_in views) ≡ false
  pub lines : (k : ℕ) (f : File) → view_at views k ≡ holds f → All P (file_faults (slot + k) f)

-- what a list says all of whose lines are such: every slot passes, and there is room for the ids
pub record Whole (P : Fault → Type 0) (s : Settings) (heap : List ℕ) (table : Table) : Type 0 where
  pub slots : Passing P 0 [] (slot_views s heap)
  pub room : ltb (capacity_of table) (length (table_of (files_in (slot_views s heap)))) ≡ false
