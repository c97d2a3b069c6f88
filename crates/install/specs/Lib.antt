pub mod Losing
pub mod Adding
pub mod Standing
