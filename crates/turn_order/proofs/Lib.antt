pub mod Actors
pub mod Idle
pub mod Waiting
