pub mod LittleEndianTurns
pub mod GroupTurns
pub mod GroupReading
pub mod Lent
