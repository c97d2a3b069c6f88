pub mod Answers
pub mod Choice
pub mod LittleEndian
pub mod Parts
pub mod Groups
pub mod GroupLaws
