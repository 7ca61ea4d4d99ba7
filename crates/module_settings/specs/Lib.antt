-- what public contracts cite
pub mod Modules
pub mod Parameters
pub mod Networks
pub mod Table
pub mod Rows
