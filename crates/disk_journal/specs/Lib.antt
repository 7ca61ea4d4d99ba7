-- what public contracts cite
pub mod GateFile
pub mod Journal
pub mod Reads
-- what only proofs and private contracts use
pub mod Appending
pub mod Durable
