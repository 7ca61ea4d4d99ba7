-- what only proofs use
pub mod SoundTests
