pub mod Group
pub mod GroupLaws
