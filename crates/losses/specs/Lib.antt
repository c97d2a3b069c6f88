pub mod Types
pub mod Salvage
pub mod Lines
pub mod Starts
pub mod Few
