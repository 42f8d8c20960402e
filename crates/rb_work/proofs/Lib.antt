pub mod PathLaws
pub mod Sizes
pub mod PlaceLaws
pub mod PathSteps
