pub mod Types
pub mod Reopening
