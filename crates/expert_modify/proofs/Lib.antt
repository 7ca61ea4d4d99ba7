pub mod Members
pub mod Rules
