mod AllLines
mod Causes
mod Items
mod Readings
