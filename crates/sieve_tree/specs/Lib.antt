-- what public contracts cite
pub mod Fixed
pub mod Pattern
pub mod SieveView
-- what only proofs use
pub mod formers
