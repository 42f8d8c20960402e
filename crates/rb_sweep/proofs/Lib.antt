pub mod SweepSteps
pub mod SweepLaws
pub mod Climbing
pub mod NamingLaws
pub mod Told
pub mod Below
