-- what public contracts cite
pub mod Found
pub mod Open
pub mod Standing
-- what only private contracts cite
pub mod Stage
