-- what public contracts cite
pub mod Links
-- what only proofs use
pub mod Slots
pub mod Rings
pub mod Kept
