pub mod FirstBytes
pub mod MoveTurn
