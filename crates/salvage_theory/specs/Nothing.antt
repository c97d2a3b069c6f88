-- Request P9: nothing is reported exactly if no slot has a fault of its own and no two sound files' ranges meet.
use Rattle.std.specs.Prelude.{◌≡◌, ◌<◌, ◌∷◌}
use Rattle.rules.specs.Base.{List, [], ℕ}
use Rattle.rules.specs.BaseLaws.{All}
use Rattle.rules.specs.SlotFile.{File, View, damaged, holds}
use Rattle.theory.specs.Types.{Refusal}
use Rattle.theory.specs.Places.{view_at, Apart}
use Rattle.losses.specs.Salvage.{Sound, start_of, end_of}

-- what makes reopening refuse with 8 to 15 is not there
pub record NothingToGiveUp (views : List View) : Type 0 where
  -- no slot fails "by itself"
  pub whole : (k : ℕ) (r : Refusal) → view_at views k ≡ damaged r → ⊥
  -- no two sound files' ranges, both ends counted, meet
  pub apart : (j k : ℕ) (f g : File) → view_at views j ≡ holds f → view_at views k ≡ holds g → (j ≡ k → ⊥) → Apart f g

-- each ends below all behind it
abbrev pub Separate : List Sound → Type 0
Separate [] = Unit {0}
Separate (x ∷ xs) = All (λ (y : Sound). end_of x < start_of y) xs × Separate xs
