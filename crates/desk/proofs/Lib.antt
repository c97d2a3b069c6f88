pub mod Orders
pub mod Lending
pub mod Notes
pub mod Tables
pub mod Marking
