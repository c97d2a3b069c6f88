pub mod Witness
pub mod Foreign
