pub mod Types
pub mod Faults
pub mod Judging
