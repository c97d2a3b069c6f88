-- The declared types, in one place, and what the calls answer.
use Rattle.std.specs.Prelude.{ℕ, ⊤, Option, Result, Ok, Err}
pub use Rattle.rules.specs.declared.Settings.{Settings}
pub use Rattle.rules.specs.declared.Label.{Label}
pub use Rattle.rules.specs.declared.Record.{Record}
pub use Rattle.rules.specs.declared.Entry.{Entry}
pub use Rattle.rules.specs.declared.FileMap.{FileMap}
pub use Rattle.rules.specs.declared.State.{State}
pub use Rattle.rules.specs.declared.Claims.{Claims}
pub use Rattle.rules.specs.declared.Refusal.{Refusal}
pub use Rattle.rules.specs.declared.Refusal.TheVariants.{Limits, BatchBytes, ObjectSize, SlotRoom, NoEmptySlot, TableRoom, PositionsSpent, LabelBytes, TrailerShort, Checksum, EntryCount, EntryPosition, PresentCount, Overlap, NotRising, CutShort, OtherId, NotThere, EqualLocation, Location, Claim, Generation}
pub use Rattle.rules.specs.declared.Lookup.{Lookup}
pub use Rattle.rules.specs.declared.Lookup.TheVariants.{Found, Deleted, NeverWritten}
pub use Rattle.rules.specs.declared.Counts.{Counts}
pub use Rattle.rules.specs.declared.Loaded.{Loaded}
pub use Rattle.rules.specs.declared.Loaded.TheVariants.{At, DeletedAt, Never}
pub use Rattle.rules.specs.declared.Stopped.{Stopped}
pub use Rattle.rules.specs.declared.Compared.{Compared}
pub use Rattle.rules.specs.declared.Compared.TheVariants.{Swapped, Differs}
pub use Rattle.rules.specs.declared.LabelAnswer.{LabelAnswer}
pub use Rattle.rules.specs.declared.LabelAnswer.TheVariants.{Vacant, Five, Wrong}

-- the answer of a call that gives nothing but its success: write, claim, release, prune, reopen, the table's store
abbrev pub Answer : Type 0
Answer = Result ⊤ Refusal

-- "the body's start in the heap and its length", or that there is none
abbrev pub ReadAnswer : Type 0
ReadAnswer = Result Lookup Refusal

-- ids moved; or the refusal, its generation and the ids moved before it
abbrev pub MaintainAnswer : Type 0
MaintainAnswer = Result ℕ Stopped

abbrev pub stopped_with : Refusal → ℕ → ℕ → Stopped
stopped_with r generation moved = record { refusal = r; generation = generation; moved = moved }

-- request P7: "It answers ids moved, or the number alone."
abbrev pub RewriteAnswer : Type 0
RewriteAnswer = Result ℕ Refusal

abbrev pub CountsAnswer : Type 0
CountsAnswer = Result Counts Refusal

abbrev pub LoadAnswer : Type 0
LoadAnswer = Result Loaded Refusal

-- what the table has for an id: its raw location, or nothing
abbrev pub Held : Type 0
Held = Option ℕ

-- what the table held before a store-if-greater
abbrev pub GreaterAnswer : Type 0
GreaterAnswer = Result Held Refusal

abbrev pub CompareAnswer : Type 0
CompareAnswer = Result Compared Refusal

-- a slot found in the file map, or none
abbrev pub Slot : Type 0
Slot = Option ℕ
