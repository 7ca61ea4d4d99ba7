-- what public contracts cite
pub mod Commands
pub mod Convert
pub mod History
pub mod Outside
pub mod Statuses
-- what only private contracts cite
pub mod Halt
pub mod Line
