pub mod Runs
pub mod Own
pub mod RunLaws
