-- what public contracts cite
pub mod Collecting
pub mod Holds
