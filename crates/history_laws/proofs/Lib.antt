pub mod Counts
mod Example
mod Histories
mod Lawful
mod Loads
pub mod Pairs
mod Replayable
mod SoundCaches
mod SoundDumps
mod SoundEntries
pub mod SoundHands
mod SoundHistories
pub mod SoundNames
pub mod SoundParts
pub mod SoundReloads
pub mod SoundSteps
mod Steps
mod Stranded
