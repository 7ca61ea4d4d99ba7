mod Expired
mod KeptMarks
pub mod Keys
mod LastApart
mod Updated
mod Rows
