-- what public contracts cite
pub mod Core
-- what only proofs use
pub mod Entries
pub mod Held
