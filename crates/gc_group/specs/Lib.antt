pub mod Source
pub mod Checks
pub mod Clear
pub mod Marks
pub mod MarkLaws
pub mod MovedLaws
