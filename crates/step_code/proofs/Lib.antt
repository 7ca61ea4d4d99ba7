pub mod GivenBack
mod Lengths
pub mod Lists
pub mod Parts
pub mod StateLaws
pub mod StepLaws
