-- what public contracts cite
pub mod Edits
pub mod Fields
pub mod Lenient
pub mod Trees
-- what only proofs and private contracts use
pub mod Built
pub mod Gathered
pub mod Noted
