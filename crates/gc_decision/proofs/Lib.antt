pub mod OrderTurns
