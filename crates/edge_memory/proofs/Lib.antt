pub mod Crashes
pub mod Lookups
pub mod Numbers
pub mod Outcomes
pub mod Restored
pub mod Steps
pub mod Presents
