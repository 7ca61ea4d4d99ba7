-- what public contracts cite
pub mod CallCount
pub mod Calls
pub mod Crashed
pub mod Disk
pub mod Entries
pub mod FailPlan
pub mod Moments
pub mod Plan
pub mod Shelf
pub mod Sink
pub mod Source
-- what only proofs and private contracts use
pub mod Course
pub mod Files
pub mod Found
pub mod Torn
