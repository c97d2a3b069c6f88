pub mod TwoBuffers
pub mod SameCalls
