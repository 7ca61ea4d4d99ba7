pub mod Unions
pub mod Sources
pub mod Types
pub mod Modified
pub mod Applied
