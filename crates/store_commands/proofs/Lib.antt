pub mod SameTexts
mod Begun
mod Completed
mod RedoEnds
mod Redone
mod Telling
