pub mod Types
pub mod Salvage
