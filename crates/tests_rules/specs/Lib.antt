pub mod Tiny
pub mod TinyLaws
