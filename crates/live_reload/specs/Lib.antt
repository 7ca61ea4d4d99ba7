-- what public contracts cite
pub mod Answers
pub mod Control
pub mod Followed
pub mod Lines
pub mod Live
