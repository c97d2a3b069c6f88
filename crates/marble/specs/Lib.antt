pub mod Unique
pub mod Results
pub mod CallContracts
pub mod Lives
pub mod Maintaining
pub mod Writers
