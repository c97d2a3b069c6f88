pub mod Chains
pub mod ChainLaws
pub mod Linking
