pub mod Heard
pub mod Saved
