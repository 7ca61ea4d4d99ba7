pub mod Cells
pub mod Line
pub mod Plain
