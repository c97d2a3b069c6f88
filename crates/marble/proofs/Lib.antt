pub mod Unique
pub mod CallContracts
pub mod Lives
pub mod Starts
pub mod Maintaining
pub mod Writers
pub mod Demands
