-- what public contracts cite
pub mod Bundle
pub mod Limits
pub mod Reading
