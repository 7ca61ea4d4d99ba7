pub mod Begins
mod Counted
pub mod FieldLaws
pub mod Laws
pub mod Readers
