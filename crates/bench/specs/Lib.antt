pub mod Lines
pub mod Buffer
pub mod Input
