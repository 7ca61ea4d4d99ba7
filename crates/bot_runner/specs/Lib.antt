-- what public contracts cite
pub mod Round
-- what private contracts cite
pub mod Calls
pub mod Feeds
pub mod Parts
