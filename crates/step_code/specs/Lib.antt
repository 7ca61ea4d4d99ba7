-- what public contracts cite
pub mod After
pub mod Code
pub mod Content
pub mod Fits
pub mod History
pub mod Places
pub mod Reading
pub mod Rules
pub mod Sound
pub mod Spent
pub mod State
