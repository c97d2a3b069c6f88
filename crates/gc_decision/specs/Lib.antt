pub mod Empties
pub mod Orders
pub mod Splits
pub mod Fitting
pub mod Decisions
pub mod Sizes
