mod Ahead
mod Halting
mod Kept
mod LineEnds
mod Replays
mod Still
mod Writing
