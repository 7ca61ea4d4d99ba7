pub mod FixedValues
mod PatternTexts
pub mod Weights
