-- what public contracts cite
pub mod Longest
-- what only proofs use
pub mod Trie
pub mod Growing
