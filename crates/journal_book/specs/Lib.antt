-- what public contracts cite
pub mod Alone
pub mod Book
pub mod Faults
pub mod Laws
pub mod NewStore
pub mod Outputs
pub mod Opening
pub mod Past
pub mod Renewing
pub mod Staged
-- what only the invariant and private contracts use
pub mod Keeping
pub mod Running
