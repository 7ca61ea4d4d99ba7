pub mod Calls
pub mod Commit
pub mod GoesOn
