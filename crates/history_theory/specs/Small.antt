-- A store in which no object is of max_object_size or more stays one: 3 refuses no batch that would bring one, and a rewrite makes none.
use Rattle.std.specs.Prelude.{◌≡◌}
use Rattle.rules.specs.Base.{false, List, ℕ, length}
use Rattle.theory.specs.Types.{Settings}
use Rattle.rules.specs.Ops.{Op}
use Rattle.rules.specs.Batch.{too_large}
use Rattle.rules.specs.SlotFile.{File, holds, views_in}
use Rattle.rules.specs.Settings.{slots_in}
use Rattle.theory.specs.Places.{view_at}
use Rattle.theory.specs.Sound.{SmallFile}

-- an operation that 3 does not refuse
abbrev pub Fine : ℕ → Op → Type 0
Fine limit o = too_large limit o.content ≡ false

-- by settings and heap alone
abbrev pub SmallIn : Settings → List ℕ → Type 0
SmallIn c heap = (k : ℕ) (f : File) → view_at (views_in (slots_in c (length heap)) c.slot_bytes heap) k ≡ holds f → SmallFile c.max_object_size f
