pub mod Types
pub mod Telling
pub mod Walks
