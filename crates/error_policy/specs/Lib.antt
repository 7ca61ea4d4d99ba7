-- what public contracts cite
pub mod Policy
