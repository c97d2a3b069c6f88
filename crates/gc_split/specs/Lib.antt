pub mod Tally
pub mod TotalLaws
pub mod BoundLaws
pub mod PieceLaws
pub mod Distinct
