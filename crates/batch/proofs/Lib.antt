pub mod CheckTurns
pub mod NoteLaws
pub mod ListTurns
pub mod ReadSteps
