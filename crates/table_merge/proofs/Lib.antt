pub mod Columns
pub mod Merging
