pub mod Matching
pub mod Same
