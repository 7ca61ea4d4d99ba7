pub mod Bodies
mod Decoded
mod Histories
pub mod Replays
