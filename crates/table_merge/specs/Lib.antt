pub mod NewIds
pub mod Merge
pub mod MergeLaws
