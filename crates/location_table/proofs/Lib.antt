pub mod Searching
pub mod Shifts
pub mod FormTurns
