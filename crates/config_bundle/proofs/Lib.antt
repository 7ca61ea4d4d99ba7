pub mod Rising
pub mod Codes
pub mod Files
