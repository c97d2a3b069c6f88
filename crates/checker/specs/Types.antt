-- The declared types that the definitions here name, in one place.
pub use Rattle.rules.specs.declared.Settings.{Settings}
pub use Rattle.rules.specs.declared.Label.{Label}
pub use Rattle.rules.specs.declared.Entry.{Entry}
pub use Rattle.rules.specs.declared.Refusal.{Refusal}
pub use Rattle.rules.specs.declared.Refusal.TheVariants.{Limits, TableRoom, Overlap}
pub use Rattle.faults.specs.Types.{Nowhere}
pub use Rattle.faults.specs.declared.Fault.{Fault}
pub use Rattle.slot_file.specs.Answers.{SlotAnswer}
