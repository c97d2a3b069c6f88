pub mod TestTurns
pub mod SurveyTurns
