-- what public contracts cite
pub mod Given
pub mod Works
