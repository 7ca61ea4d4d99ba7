-- what public contracts cite
pub mod DrillFeed
pub mod Drill
-- what only proofs use
pub mod Lines
pub mod Held
