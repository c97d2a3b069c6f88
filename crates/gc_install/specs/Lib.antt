pub mod IdLaws
pub mod RecordLaws
pub mod ChainedLaws
pub mod Rewriting
pub mod Placing
