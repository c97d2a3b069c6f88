pub mod Answers
pub mod Through
pub mod Pieces
pub mod ThroughLaws
