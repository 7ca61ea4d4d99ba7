pub mod Runs
pub mod Contents
