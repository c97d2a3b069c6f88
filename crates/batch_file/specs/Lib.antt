pub mod Putting
pub mod Steps
pub mod Summing
pub mod Underway
pub mod Whole
