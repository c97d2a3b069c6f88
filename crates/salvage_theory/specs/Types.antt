-- The type that crate salvage declares, as it is named from here.
pub use Rattle.losses.specs.declared.Loss.{Loss}
