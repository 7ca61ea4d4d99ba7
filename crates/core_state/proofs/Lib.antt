mod Brought
pub mod Halves
pub mod Numbered
pub mod Past
mod Places
mod Waiting
mod Seen
