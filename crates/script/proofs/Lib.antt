pub mod Digits
pub mod WordTurns
pub mod Cuts
pub mod Taken
pub mod Ends
pub mod Naming
