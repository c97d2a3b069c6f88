-- The declared types that the laws here name, in one place.
pub use Rattle.rules.specs.declared.Settings.{Settings}
pub use Rattle.rules.specs.declared.Label.{Label}
pub use Rattle.rules.specs.declared.Record.{Record}
pub use Rattle.rules.specs.declared.Entry.{Entry}
pub use Rattle.rules.specs.declared.State.{State}
pub use Rattle.rules.specs.declared.Claims.{Claims}
pub use Rattle.rules.specs.declared.Refusal.{Refusal}
pub use Rattle.rules.specs.declared.Refusal.TheVariants.{Limits, TableRoom, Overlap, NotRising}
pub use Rattle.rules.specs.Types.{Answer}
