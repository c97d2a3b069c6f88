-- On a store of the invariant a file of a group is refused with 3 only, where an object of it is of max_object_size or more.
use Rattle.std.specs.Prelude.{◌≡◌, ◌⊎◌}
use Rattle.rules.specs.Base.{true, false, List, ℕ, leb, any}
use Rattle.theory.specs.Types.{ObjectSize}
use Rattle.rules.specs.Refusal.{Test, ◌gives◌}
use Rattle.rules.specs.Object.{Stored, objects_in}
use Rattle.rules.specs.SlotFile.{File, holds}
use Rattle.rules.specs.FileMapLaws.{Among}
use Rattle.rules.specs.World.{World}
use Rattle.theory.specs.Places.{view_at}
use Rattle.theory.specs.Picture.{views_of}

-- an object of max_object_size or more, in the file of one of these slots
pub record Oversized (w : World) (ks : List ℕ) : Type 0 where
  pub slot : ℕ
  pub among : Among ks slot
  pub file : File
  pub shows : view_at (views_of w) slot ≡ holds file
  pub large : any (λ (o : Stored). leb w.settings.max_object_size o.size) (objects_in file.objects) ≡ true

-- a test that does not hold; or it gives 3, and X
abbrev pub OnlySize : Type 0 → Test → Type 0
OnlySize X (b gives r) = (b ≡ false) ⊎ ((r ≡ ObjectSize) × X)
