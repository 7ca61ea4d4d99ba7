pub mod Laws
pub mod Notes
pub mod Reports
pub mod Rows
