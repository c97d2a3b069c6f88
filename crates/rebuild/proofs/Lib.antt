pub mod CountTurns
pub mod FillTurns
