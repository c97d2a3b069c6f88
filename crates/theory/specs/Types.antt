-- The types that crate rules declares, as they are named from here.
pub use Rattle.rules.specs.declared.Settings.{Settings}
pub use Rattle.rules.specs.declared.Label.{Label}
pub use Rattle.rules.specs.declared.Record.{Record}
pub use Rattle.rules.specs.declared.Entry.{Entry}
pub use Rattle.rules.specs.declared.FileMap.{FileMap}
pub use Rattle.rules.specs.declared.State.{State}
pub use Rattle.rules.specs.declared.Claims.{Claims}
pub use Rattle.rules.specs.declared.Refusal.{Refusal}
pub use Rattle.rules.specs.declared.Refusal.TheVariants.{Limits, BatchBytes, ObjectSize, SlotRoom, NoEmptySlot, TableRoom, PositionsSpent, LabelBytes, TrailerShort, Checksum, EntryCount, EntryPosition, PresentCount, Overlap, NotRising, CutShort, OtherId, NotThere, EqualLocation, Location, Claim, Generation}
pub use Rattle.rules.specs.Types.{Answer, ReadAnswer, MaintainAnswer, CountsAnswer, LoadAnswer, GreaterAnswer, CompareAnswer, Held, Slot, stopped_with}
pub use Rattle.rules.specs.declared.Lookup.TheVariants.{Found, Deleted, NeverWritten}
pub use Rattle.rules.specs.declared.Counts.{Counts}
pub use Rattle.rules.specs.declared.Loaded.{Loaded}
pub use Rattle.rules.specs.declared.Loaded.TheVariants.{At, DeletedAt, Never}
pub use Rattle.rules.specs.declared.Compared.TheVariants.{Swapped, Differs}
pub use Rattle.rules.specs.declared.LabelAnswer.{LabelAnswer}
pub use Rattle.rules.specs.declared.LabelAnswer.TheVariants.{Vacant, Five, Wrong}
