pub mod NewIds
pub mod Sizes
pub mod SizeLaws
pub mod Decisions
pub mod DecisionLaws
