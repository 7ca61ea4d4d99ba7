mod Canonical
mod Cellwise
mod Lines
mod Parts
