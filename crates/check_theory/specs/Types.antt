-- The types that crate faults declares, as they are named from here.
pub use Rattle.faults.specs.Types.{Place, Nowhere, Object}
pub use Rattle.faults.specs.declared.Fault.{Fault}
