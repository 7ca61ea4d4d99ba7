-- what public contracts cite
pub mod Entries
pub mod Locked
