-- what public contracts cite
pub mod Exact
pub mod Lenient
pub mod Strict
pub mod Text
-- what only proofs and private contracts use
pub mod Decode
