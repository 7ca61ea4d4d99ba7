-- what public contracts cite
pub mod Fetch
-- what private contracts cite
pub mod Front
