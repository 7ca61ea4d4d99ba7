mod Keeps
mod Positions
pub mod Prefixes
