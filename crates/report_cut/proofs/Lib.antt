pub mod Calls
pub mod Cutting
pub mod Growing
pub mod Handing
pub mod Header
pub mod Joined
pub mod Last
pub mod LinesOf
pub mod Longest
pub mod NextPiece
pub mod PieceLines
pub mod Plain
mod Positions
pub mod Reading
pub mod SingleLine
