mod Apart
mod Decided
