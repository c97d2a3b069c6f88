pub mod Numbered
pub mod Shown
pub mod ClaimWords
pub mod StateWords
pub mod StateLaws
