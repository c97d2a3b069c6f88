-- Request P5: a slot's own fault (8 to 13, then 15, slot by slot) beside reopening's order (8 to 13 over the slots, then 14, 15 and 6 over all).
use Rattle.std.proofs.Math.Path.{◌≡◌}
use Rattle.std.specs.Prelude.{◌<◌, ◌≤◌, ◌∷◌}
use Rattle.rules.specs.Base.{List, [], ℕ, length, ltb, any}
use Rattle.rules.specs.Refusal.{Test, ◌gives◌, number_of}
use Rattle.rules.specs.SlotFile.{File, View, damaged, holds}
use Rattle.rules.specs.Layout.{capacity_of}
use Rattle.rules.specs.Reopen.{files_in, overlapping, not_rising, table_of}
use Rattle.rules.specs.World.{World}
use Rattle.theory.specs.Types.{Refusal, TableRoom, Overlap, NotRising}
use Rattle.theory.specs.Places.{view_at, Apart}
use Rattle.theory.specs.Picture.{views_of}
use Rattle.faults.specs.Faults.{judged_in}

-- "In a slot the first failure of 8 to 13 and 15": slot k's own fault is this number
abbrev pub OwnFault : World → ℕ → Refusal → Type 0
OwnFault w k r = view_at (judged_in w.settings w.heap) k ≡ damaged r

-- one of 8 to 13
abbrev pub EightToThirteen : Refusal → Type 0
EightToThirteen r = (8 ≤ number_of r) × (number_of r ≤ 13)

-- ---- what a slot's view can show
-- every test of a list gives such a refusal
abbrev pub AllGive : (Refusal → Type 0) → List Test → Type 0
AllGive P [] = Unit {0}
AllGive P (b gives r ∷ ts) = P r × AllGive P ts

-- ---- 8 to 13 over the slots: the lowest that is damaged
pub record Lowest (views : List View) (r : Refusal) : Type 0 where
  pub slot : ℕ
  pub shows : view_at views slot ≡ damaged r
  pub first : (j : ℕ) (q : Refusal) → j < slot → view_at views j ≡ damaged q → ⊥

-- ---- reopening
-- what 14, 15 and 6 are asked of, over all
abbrev pub over_all : World → List Test
over_all w =
    overlapping (files_in (views_of w)) gives Overlap
    ∷ any (λ (f : File). not_rising f.entries) (files_in (views_of w)) gives NotRising
    ∷ ltb (capacity_of w.table) (length (table_of (files_in (views_of w)))) gives TableRoom
    ∷ []

-- the lowest slot whose own fault is of 8 to 13, and that fault
pub record LowestOwn (w : World) (r : Refusal) : Type 0 where
  pub slot : ℕ
  pub own : OwnFault w slot r
  pub early : EightToThirteen r
  pub lowest : (j : ℕ) (q : Refusal) → j < slot → OwnFault w j q → EightToThirteen q → ⊥

-- no slot's own fault is of 8 to 13, no two files' ranges meet, and some slot's own fault is 15
pub record FifteenOwn (w : World) : Type 0 where
  pub slot : ℕ
  pub own : OwnFault w slot NotRising
  pub none : (k : ℕ) (r : Refusal) → OwnFault w k r → EightToThirteen r → ⊥
  pub apart : (j k : ℕ) (f g : File) → view_at (views_of w) j ≡ holds f → view_at (views_of w) k ≡ holds g → (j ≡ k → ⊥) → Apart f g
