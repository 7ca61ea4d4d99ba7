-- what public contracts cite
pub mod Count
pub mod Disk
pub mod Named
pub mod Output
pub mod Shelf
pub mod Sink
pub mod Source
-- what only proofs use
pub mod NoFiles
