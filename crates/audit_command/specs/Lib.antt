-- what public contracts cite
pub mod Audited
