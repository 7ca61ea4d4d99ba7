-- what public contracts cite
pub mod Lock
pub mod Seats
