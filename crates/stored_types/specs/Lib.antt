-- what public contracts cite
pub mod Code
pub mod Coded
pub mod Hand
pub mod Mark
pub mod Message
pub mod Queue
