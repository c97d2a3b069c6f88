pub mod PlanWords
pub mod PlanLaws
