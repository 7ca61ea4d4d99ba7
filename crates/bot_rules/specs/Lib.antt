-- what public contracts cite
pub mod Facts
pub mod Report
pub mod Jobs
pub mod Gives
pub mod Intel
-- what private contracts use
pub mod Ready
-- the laws of the trait, with their proofs
pub mod Laws
