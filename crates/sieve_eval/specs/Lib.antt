-- what public contracts cite
pub mod Amount
pub mod Holds
pub mod Outcome
pub mod Runs
pub mod Says
pub mod Verdicts
-- what only private contracts and proofs use
pub mod Automata
pub mod Putting
