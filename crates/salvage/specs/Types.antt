-- The declared types that the definitions here name, in one place.
pub use Rattle.rules.specs.declared.Settings.{Settings}
pub use Rattle.rules.specs.declared.Refusal.TheVariants.{Limits}
pub use Rattle.slot_file.specs.Answers.{SlotAnswer}
