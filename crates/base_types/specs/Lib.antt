-- what public contracts cite
pub mod Digits
pub mod JsonText
pub mod Lines
pub mod Lists
pub mod Name
pub mod Number
pub mod Padded
pub mod Place
pub mod Plain
pub mod Scalar
pub mod Text
pub mod formers
