-- what public contracts cite
pub mod Damage
pub mod Files
pub mod History
pub mod Opens
pub mod Renewed
pub mod Sealing
pub mod Stands
pub mod Stored
