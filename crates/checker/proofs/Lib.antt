pub mod Answers
pub mod SlotLines
pub mod Few
