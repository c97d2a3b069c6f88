pub mod MarkTurns
