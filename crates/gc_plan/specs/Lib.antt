pub mod Forecasts
pub mod Plans
pub mod Unique
