pub mod Found
pub mod Fronts
pub mod Greatest
pub mod Grown
pub mod Longest
pub mod Parting
pub mod Places
pub mod Ways
