-- what public contracts cite
pub mod Output
-- what only proofs and private contracts use
pub mod Run
