-- what public contracts cite
pub mod Brought
