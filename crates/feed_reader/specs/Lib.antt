pub mod Ahead
pub mod Beginning
pub mod Coming
