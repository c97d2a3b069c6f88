pub mod Types
pub mod Latest
pub mod Filled
pub mod Records
pub mod Counting
