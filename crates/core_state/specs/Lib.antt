-- what public contracts cite
pub mod Caches
pub mod Outputs
pub mod Room
pub mod Sealing
pub mod Spent
pub mod State
