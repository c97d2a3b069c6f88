pub mod Labels
pub mod Files
