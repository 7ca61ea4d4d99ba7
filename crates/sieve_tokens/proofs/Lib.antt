mod Comments
mod Contents
pub mod Covers
mod Finds
mod Keywords
mod Numbers
pub mod Pieces
mod Quotes
mod Runs
mod Scans
pub mod Signs
mod WordLens
