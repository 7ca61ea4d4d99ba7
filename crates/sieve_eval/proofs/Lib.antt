pub mod Automata
pub mod Conditions
pub mod Ends
pub mod Items
pub mod Patterns
pub mod TextParts
pub mod Texts
pub mod Weights
