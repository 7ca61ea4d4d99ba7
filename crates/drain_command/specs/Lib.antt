-- what public contracts cite
pub mod Drained
pub mod Laws
pub mod Turned
