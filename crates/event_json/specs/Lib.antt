-- what only proofs and private contracts use
pub mod CompactText
pub mod Direct
pub mod Put
pub mod Quoted
