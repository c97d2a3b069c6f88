pub mod Worth
pub mod PlanTurns
