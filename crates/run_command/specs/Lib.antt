-- what public contracts cite
pub mod Laws
pub mod Runs
pub mod Said
-- what only private contracts cite
pub mod Fetched
pub mod Laps
