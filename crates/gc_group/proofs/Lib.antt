pub mod MarkTurns
pub mod Source
pub mod Checks
pub mod Clear
pub mod MarkLaws
pub mod MovedLaws
