-- the worlds; the table of orders, and that it holds; what a refused maintenance leaves; single points; those of request P7
pub mod Worlds
pub mod Orders
pub mod Stops
pub mod Points
pub mod TwoCalls
