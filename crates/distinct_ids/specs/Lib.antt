pub mod Types
pub mod Distinct
pub mod Window
pub mod Places
pub mod Ascent
pub mod Capped
pub mod Sound
