pub mod Places
pub mod PlaceLaws
pub mod FileLaws
pub mod MarkedLaws
