pub mod Files
pub mod Untold
