-- what public contracts cite
pub mod Laws
pub mod Turn
-- what only proofs use
pub mod Order
