pub mod Cells
pub mod Columns
pub mod Laws
pub mod Rows
