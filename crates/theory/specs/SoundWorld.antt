-- The invariant of a store in bytes; 1 refuses no call on it.
use Rattle.std.specs.Prelude.{◌≡◌, ◌-◌}
use Rattle.rules.specs.Base.{true, ℕ, length}
use Rattle.rules.specs.SlotFile.{File, holds}
use Rattle.rules.specs.Layout.{capacity_of, in_form}
use Rattle.rules.specs.Condition1Laws.{InLimits}
use Rattle.rules.specs.World.{World}
use Rattle.theory.specs.Places.{view_at}
use Rattle.theory.specs.Picture.{views_of, picture_of, Said}
use Rattle.theory.specs.Sound.{SmallFile, Sound}

-- settings, lengths and table form as 1 asks for them
pub record Tidy (w : World) : Type 0 where
  pub limits : InLimits w.settings (length w.heap) w.table
  pub settings : w.settings ≡ w.state.settings
  pub heap_len : length w.heap ≡ w.state.heap_len
  pub table-len : capacity_of w.table ≡ w.state.table_len
  pub form : in_form w.table ≡ true

-- what the table of a store keeps to
abbrev pub bounds_of : World → ℕ
bounds_of w = capacity_of w.table

-- told: what the plain engine says of each id
pub record SoundWorld (w : World) (told : ℕ → Said) : Type 0 where
  pub tidy : Tidy w
  pub sound : Sound (bounds_of w) (picture_of w) told

-- what only 3 hangs on, and the invariant does not ask for: no object of any file is of max_object_size or more
abbrev pub SmallWorld : World → Type 0
SmallWorld w = (k : ℕ) (f : File) → view_at (views_of w) k ≡ holds f → SmallFile w.settings.max_object_size f
