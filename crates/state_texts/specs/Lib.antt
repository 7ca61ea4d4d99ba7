-- what public contracts cite
pub mod Texts
-- what only proofs use
pub mod Parts
