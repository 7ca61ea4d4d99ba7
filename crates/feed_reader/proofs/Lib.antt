pub mod Ended
pub mod Fronts
pub mod Given
pub mod Headers
pub mod Sources
pub mod Taken
