pub mod Telling
pub mod Search
pub mod Walks
