-- what public contracts cite
pub mod Audit
-- what only proofs and private contracts use
pub mod Ends
pub mod Sealed
pub mod Walks
