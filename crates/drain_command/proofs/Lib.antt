pub mod Made
pub mod Unhindered
