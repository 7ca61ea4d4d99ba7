-- what public contracts cite
pub mod Blank
pub mod Bytes
pub mod Laws
pub mod Number
pub mod Piece
pub mod Quoted
pub mod Sign
pub mod Token
pub mod Word
-- what only proofs use
pub mod Scan
