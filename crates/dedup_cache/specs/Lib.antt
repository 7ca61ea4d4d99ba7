-- what public contracts cite
pub mod Cache
-- what only proofs use
pub mod Kept
