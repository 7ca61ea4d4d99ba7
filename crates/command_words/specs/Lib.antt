-- what public contracts cite
pub mod Asked
pub mod Command
pub mod Values
pub mod Words
