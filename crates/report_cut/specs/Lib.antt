pub mod Cutter
pub mod Laws
pub mod Line
pub mod Pending
pub mod Pieces
pub mod Scan
pub mod Standing
