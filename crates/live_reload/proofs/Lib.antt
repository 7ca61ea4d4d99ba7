pub mod Followed
pub mod Long
pub mod Meant
pub mod Names
pub mod Turned
pub mod Wholes
