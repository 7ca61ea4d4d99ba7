pub mod Called
pub mod Going
pub mod Replayed
pub mod Ways
mod BroughtUp
