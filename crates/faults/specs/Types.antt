-- The declared types that the definitions here name, in one place.
pub use Rattle.rules.specs.declared.Settings.{Settings}
pub use Rattle.rules.specs.declared.Label.{Label}
pub use Rattle.rules.specs.declared.Entry.{Entry}
pub use Rattle.rules.specs.declared.Refusal.{Refusal}
pub use Rattle.rules.specs.declared.Refusal.TheVariants.{Limits, TableRoom, Checksum, Overlap, NotRising, CutShort, OtherId}
pub use Rattle.std.specs.Prelude.{None as Nowhere, Some as Object}
pub use Rattle.faults.specs.declared.Fault.{Fault}
use Rattle.std.specs.Prelude.{Option, ℕ}

-- where a fault is: nowhere, or at an object's position
abbrev pub Place : Type 0
Place = Option ℕ
