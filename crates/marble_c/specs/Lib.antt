pub mod Host
pub mod Told
pub mod Salvages
pub mod Unique
pub mod Version
