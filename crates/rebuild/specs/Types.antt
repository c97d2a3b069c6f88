-- The declared types that the laws here name, in one place.
pub use Rattle.rules.specs.declared.Label.{Label}
pub use Rattle.rules.specs.declared.Record.{Record}
pub use Rattle.rules.specs.declared.Entry.{Entry}
pub use Rattle.rules.specs.Types.{Held}
