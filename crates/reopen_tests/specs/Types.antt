-- The declared types that the laws here name, in one place.
pub use Rattle.rules.specs.declared.Label.{Label}
pub use Rattle.rules.specs.declared.Entry.{Entry}
pub use Rattle.rules.specs.declared.Refusal.{Refusal}
pub use Rattle.rules.specs.Types.{Answer}
pub use Rattle.rules.specs.declared.LabelAnswer.{LabelAnswer}
pub use Rattle.rules.specs.declared.LabelAnswer.TheVariants.{Vacant, Five, Wrong}
