pub mod Number
pub mod Quote
pub mod Raw
pub mod Strip
pub mod Time
pub mod Words
