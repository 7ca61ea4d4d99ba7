mod Fields
mod LineReads
pub mod NoTexts
mod PlainLines
mod Split
