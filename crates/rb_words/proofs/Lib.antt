pub mod Matches
pub mod Simple
pub mod Parts
pub mod Telling
pub mod Down
pub mod WordLists
