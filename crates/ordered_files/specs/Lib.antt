pub mod Order
pub mod OrderLaws
pub mod Found
