-- what public contracts cite
pub mod Calls
pub mod Feeds
-- what only private contracts cite
pub mod Opening
pub mod Looking
pub mod Turning
