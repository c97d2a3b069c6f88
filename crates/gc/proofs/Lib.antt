pub mod Rewrites
pub mod Unique
