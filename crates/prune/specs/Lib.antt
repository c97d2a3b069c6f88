pub mod Labels
pub mod CallLaws
