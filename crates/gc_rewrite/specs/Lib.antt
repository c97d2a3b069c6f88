pub mod Courses
pub mod Putting
pub mod Rewriting
