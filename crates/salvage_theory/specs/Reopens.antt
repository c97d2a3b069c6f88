-- Request P9, "Reopening afterwards is accepted, or is refused with 6. A heap that reopening accepts gets an empty report.": the report is
-- empty exactly of the heaps that reopening accepts or refuses with 6.
use Rattle.std.specs.Prelude.{◌≡◌, ◌⊎◌}
use Rattle.rules.specs.Base.{Bool, false, List, [], ℕ, any}
use Rattle.rules.specs.Refusal.{after}
use Rattle.rules.specs.SlotFile.{File, View, damaged, holds}
use Rattle.rules.specs.Reopen.{files_in, overlapping, not_rising, reopen_call}
use Rattle.rules.specs.World.{World, accepted, refused}
use Rattle.theory.specs.Types.{Refusal, TableRoom}
use Rattle.theory.specs.Places.{view_at}
use Rattle.theory.specs.Picture.{views_of}
use Rattle.power_cuts.specs.Hidden.{with_heap}
use Rattle.faults.specs.Faults.{judged}
use Rattle.losses.specs.Salvage.{salvage_call}

-- ---- slots judged by themselves, and 8 to 15 over all
-- some file that 15 refuses
abbrev pub some_falls : List View → Bool
some_falls views = any (λ (f : File). not_rising f.entries) (files_in views)

-- none of 8 to 15 holds of a heap
pub record NoneOf8To15 (w : World) : Type 0 where
  pub whole : (k : ℕ) (r : Refusal) → view_at (views_of w) k ≡ damaged r → ⊥
  pub clear : overlapping (files_in (views_of w)) ≡ false
  pub rising : some_falls (views_of w) ≡ false

-- ---- reopening
-- it is accepted, or is refused with 6
abbrev pub AcceptedOr6 : World → Type 0
AcceptedOr6 w = ((reopen_call w).answer ≡ accepted []) ⊎ ((reopen_call w).answer ≡ refused TableRoom)

-- ---- the call
-- the store's buffers after a salvage: the heap that it leaves
abbrev pub rescued : World → List ℕ → World
rescued w words = with_heap w (salvage_call w.settings w.heap w.table words).heap
