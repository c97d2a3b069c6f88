pub mod Runs
pub mod Jobs
pub mod Cuts
pub mod Enduring
pub mod Reopening
pub mod Hidden
pub mod Emptying
pub mod Witness
