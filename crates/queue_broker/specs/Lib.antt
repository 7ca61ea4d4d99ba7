-- what public contracts cite
pub mod Broker
-- what only proofs use
pub mod Kept
