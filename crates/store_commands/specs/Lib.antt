-- what public contracts cite
pub mod Ends
pub mod Begun
pub mod Redone
pub mod Completed
pub mod Laws
