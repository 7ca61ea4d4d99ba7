-- what public contracts cite
pub mod Reading
