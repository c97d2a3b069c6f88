pub mod LastTurns
pub mod ThroughLaws
