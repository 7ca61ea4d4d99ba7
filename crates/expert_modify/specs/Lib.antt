pub mod Meets
pub mod Reading
