-- what public contracts cite
pub mod Answer
pub mod Grammar
pub mod Laws
pub mod Leaf
pub mod Lexeme
pub mod NetworkOf
pub mod Reads
pub mod Refusal
pub mod Span
-- what only proofs use
pub mod Ahead
pub mod Outcome
pub mod Parse
