-- what public contracts cite
pub mod Chosen
pub mod Enrich
pub mod Modify
pub mod Taxonomy
