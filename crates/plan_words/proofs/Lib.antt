pub mod GroupTurns
pub mod Placing
