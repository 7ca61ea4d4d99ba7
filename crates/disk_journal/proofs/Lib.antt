pub mod Appends
pub mod Either
pub mod GateFiles
pub mod Reopening
pub mod Resting
pub mod Steps
pub mod Walking
