mod Finding
pub mod Giving
pub mod Trying
