pub mod Answers
pub mod Places
pub mod Tables
pub mod Halving
pub mod EntryLaws
pub mod LayoutLaws
pub mod StoreLaws
pub mod LoadLaws
