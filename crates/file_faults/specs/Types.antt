-- The declared types that the definitions here name, in one place.
pub use Rattle.rules.specs.declared.Entry.{Entry}
pub use Rattle.rules.specs.declared.Refusal.{Refusal}
pub use Rattle.rules.specs.declared.Refusal.TheVariants.{Checksum, CutShort, OtherId}
pub use Rattle.faults.specs.Types.{Place, Nowhere, Object}
pub use Rattle.faults.specs.declared.Fault.{Fault}
