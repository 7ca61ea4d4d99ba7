pub mod Alike
pub mod Damaged
pub mod Either
pub mod Histories
pub mod Numbers
pub mod Renewed
pub mod Sealed
pub mod Sounds
pub mod Standing
pub mod Stops
pub mod Stored
pub mod Unsealed
pub mod Whole
mod Acted
