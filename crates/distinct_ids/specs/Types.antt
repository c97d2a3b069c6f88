-- The declared types that the definitions here name, in one place.
pub use Rattle.rules.specs.declared.Label.{Label}
pub use Rattle.rules.specs.declared.Entry.{Entry}
pub use Rattle.std.specs.Prelude.{Option, Some, None}
