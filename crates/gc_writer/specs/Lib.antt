pub mod Elsewhere
pub mod Walk
pub mod Writing
