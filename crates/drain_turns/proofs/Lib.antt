mod AllAsked
pub mod Free
mod ReadOn
pub mod Moving
pub mod Nobody
mod One
mod OneDrain
pub mod Opened
mod Readied
pub mod Screened
pub mod Turning
pub mod Working
