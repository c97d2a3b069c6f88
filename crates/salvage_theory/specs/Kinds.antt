-- Request P9: which slots are of the first kind, and which are "the rest".
use Rattle.std.specs.Prelude.{◌≡◌, ◌≤◌, ◌∷◌, ◌+◌}
use Rattle.rules.specs.Base.{List, [], map, ℕ, suc}
use Rattle.rules.specs.BaseLaws.{All}
use Rattle.rules.specs.SlotFile.{File, View, damaged, holds}
use Rattle.theory.specs.Types.{Overlap}
use Rattle.theory.specs.Places.{view_at}
use Rattle.losses.specs.Salvage.{loss, Sound}
use Rattle.check_theory.specs.Lists.{In}
use Rattle.salvage_theory.specs.Types.{Loss}
use Rattle.salvage_theory.specs.InOrder.{Ordered}

-- ---- the first kind
-- a line of a slot from n on, by the slot's own fault
pub record OwnLine (n : ℕ) (views : List View) (x : Loss) : Type 0 where
  pub off : ℕ
  pub is : x.slot ≡ n + off
  pub own : view_at views off ≡ damaged x.refusal

-- lines from slot n on, each of a higher slot than the one before
abbrev pub Climbs : ℕ → List Loss → Type 0
Climbs n [] = Unit {0}
Climbs n (x ∷ xs) = (n ≤ x.slot) × Climbs (suc x.slot) xs

-- ---- the rest
-- a slot from n on that holds a sound file of this label
pub record HoldsSound (n : ℕ) (views : List View) (x : Sound) : Type 0 where
  pub off : ℕ
  pub file : File
  pub is : x.slot ≡ n + off
  pub shows : view_at views off ≡ holds file
  pub label : file.label ≡ x.label

-- ---- the second kind
-- each line is 14, of a slot of these files
abbrev pub OverlapOf : (ℕ → Type 0) → Loss → Type 0
OverlapOf P x = (x.refusal ≡ Overlap) × P x.slot

-- ---- the order of the second kind
-- files of these, in their order, each with a line of 14
pub record GivenUp (ys : List Sound) (lines : List Loss) : Type 0 where
  pub files : List Sound
  pub among : All (In ys) files
  pub ordered : Ordered files
  pub are : lines ≡ map (λ (x : Sound). loss x.slot Overlap) files
