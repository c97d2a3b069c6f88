pub mod Answers
pub mod Labels
pub mod Slots
