pub mod CommandLine
pub mod Counts
