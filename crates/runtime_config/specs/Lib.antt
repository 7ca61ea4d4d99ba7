-- what public contracts cite
pub mod SieveIn
pub mod Sieves
pub mod FileRules
pub mod Faults
pub mod Load
pub mod Within
-- what private contracts use
pub mod Sums
pub mod Paths
pub mod Shared
pub mod Whole
pub mod Found
