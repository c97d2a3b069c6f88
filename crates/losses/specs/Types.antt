-- The declared types that the definitions here name, in one place.
pub use Rattle.rules.specs.declared.Settings.{Settings}
pub use Rattle.rules.specs.declared.Label.{Label}
pub use Rattle.rules.specs.declared.Refusal.{Refusal}
pub use Rattle.rules.specs.declared.Refusal.TheVariants.{Limits, Overlap}
pub use Rattle.slot_file.specs.Answers.{SlotAnswer}
pub use Rattle.losses.specs.declared.Loss.{Loss}
