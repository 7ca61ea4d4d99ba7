pub mod Entries
pub mod Rounds
