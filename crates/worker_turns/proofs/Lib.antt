pub mod Collecting
pub mod Holding
pub mod Refusing
pub mod Seen
mod Bundles
