mod Gaps
mod Joins
pub mod Raws
pub mod Rowwise
