pub mod Filing
pub mod Standing
pub mod Unique
