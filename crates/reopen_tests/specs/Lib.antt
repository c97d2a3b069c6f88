pub mod Types
pub mod Labels
pub mod Seen
pub mod SeenLaws
pub mod Ascending
pub mod Shown
pub mod Overlaps
pub mod Tests
