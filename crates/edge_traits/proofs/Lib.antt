pub mod Counts
pub mod Moments
pub mod Outcomes
pub mod Outputs
pub mod Writing
