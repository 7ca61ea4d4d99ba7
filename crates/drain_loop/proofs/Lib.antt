mod Begun
mod Bundles
mod Looked
mod Looking
mod Moving
mod Turning
