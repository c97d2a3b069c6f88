-- On a store of the invariant a group is rewritten or refused with 4, 5 or 7, or with 3 where an object of it is too large; and files stay.
use Rattle.std.specs.Prelude.{◌≡◌, ◌⊎◌, ◌<◌}
use Rattle.rules.specs.Base.{List, ℕ}
use Rattle.theory.specs.Types.{Refusal, ObjectSize, SlotRoom, NoEmptySlot, PositionsSpent}
use Rattle.rules.specs.Ops.{Op}
use Rattle.rules.specs.SlotFile.{File, holds}
use Rattle.rules.specs.FileMap.{record_at}
use Rattle.rules.specs.Maintenance.{Stop, going, stopped, Course, group, start_group}
use Rattle.rules.specs.World.{World, records_of}
use Rattle.theory.specs.Places.{view_at}
use Rattle.theory.specs.Picture.{views_of}
use Rattle.theory.specs.SoundWorld.{SoundWorld}
use Rattle.history_theory.specs.Writing.{engine}
use Rattle.maintenance_theory.specs.Checked.{Oversized}

-- 4, 5 or 7
abbrev pub Spent : Refusal → Type 0
Spent r = (r ≡ SlotRoom) ⊎ ((r ≡ NoEmptySlot) ⊎ (r ≡ PositionsSpent))

-- why a group is refused: 4, 5 or 7; or 3, where an object of it is of max_object_size or more
abbrev pub Refusable : World → List ℕ → Refusal → Type 0
Refusable w ks r = Spent r ⊎ ((r ≡ ObjectSize) × Oversized w ks)

-- ---- files stay
-- each file is where it was
abbrev pub Remain : World → World → Type 0
Remain w v = (k : ℕ) (f : File) → view_at (views_of w) k ≡ holds f → view_at (views_of v) k ≡ holds f

-- a slot with a file keeps one
abbrev pub Stay : World → World → Type 0
Stay w v = (k : ℕ) → 0 < (record_at (records_of w) k).label.lsn → 0 < (record_at (records_of v) k).label.lsn

-- where the call may stand
abbrev pub StopsWell : World → Stop → Type 0
StopsWell start going = Unit {0}
StopsWell start (stopped r g) = Refusable start (start_group start g) r

-- the invariant, the settings and files as the call starts, and a stop for these reasons only
pub record Underway (history : List Op) (start : World) (c : Course) : Type 0 where
  pub sound : SoundWorld c.world (engine history)
  pub stay : Stay start c.world
  pub remain : Remain start c.world
  pub settings : c.world.settings ≡ start.settings
  pub stop : StopsWell start c.stop
