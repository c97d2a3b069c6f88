-- "Refusal numbers": "Each is given exactly when its condition holds and no earlier one in the call's order does."
use Rattle.rules.specs.Base.{Bool, true, false, List, [], ℕ, pick}
use Rattle.rules.specs.Types.{Refusal, Limits, BatchBytes, ObjectSize, SlotRoom, NoEmptySlot, TableRoom, PositionsSpent, LabelBytes, TrailerShort, Checksum, EntryCount, EntryPosition, PresentCount, Overlap, NotRising, CutShort, OtherId, NotThere, EqualLocation, Location, Claim, Generation, Answer}
use Rattle.std.specs.Prelude.{◌≡◌, ◌∷◌, ◌++◌, Err, Ok}

-- the table "No. | Condition"
abbrev pub number_of : Refusal → ℕ
number_of Limits = 1
number_of BatchBytes = 2
number_of ObjectSize = 3
number_of SlotRoom = 4
number_of NoEmptySlot = 5
number_of TableRoom = 6
number_of PositionsSpent = 7
number_of LabelBytes = 8
number_of TrailerShort = 9
number_of Checksum = 10
number_of EntryCount = 11
number_of EntryPosition = 12
number_of PresentCount = 13
number_of Overlap = 14
number_of NotRising = 15
number_of CutShort = 16
number_of OtherId = 17
number_of NotThere = 18
number_of EqualLocation = 19
number_of Location = 20
number_of Claim = 21
number_of Generation = 22

-- a condition and the refusal that it gives
infix 70 ◌gives◌
pub data Test : Type 0 where
  ◌gives◌ : Bool → Refusal → Test

-- the first condition that holds, in the order of the list
unfoldable pub decide : List Test → Answer
decide [] = Ok tt
decide (b gives r ∷ ts) = pick b (Err r) (decide ts)

-- what follows an answer
abbrev pub after : {A : Type 0} → Answer → (Refusal → A) → A → A
after (Ok _) refused accepted = accepted
after (Err r) refused accepted = refused r

-- ---- the law: exactly when its condition holds and no earlier one does
unfoldable pub NoneHolds : List Test → Type 0
NoneHolds [] = Unit {0}
NoneHolds (b gives r ∷ ts) = (b ≡ false) × NoneHolds ts

-- the place of the refusal that was given
pub record Given-at (ts : List Test) (r : Refusal) : Type 0 where
  pub earlier : List Test
  pub later : List Test
  pub here : ts ≡ earlier ++ (true gives r ∷ later)
  pub none : NoneHolds earlier
