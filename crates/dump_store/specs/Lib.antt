-- what public contracts cite
pub mod Dumps
pub mod Export
-- what only proofs use
pub mod Pieces
