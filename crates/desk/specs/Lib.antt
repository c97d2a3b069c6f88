pub mod Types
pub mod Kinds
pub mod Desk
pub mod Commands
pub mod Reports
pub mod Failed
