pub mod ReadingBack
pub mod Numbered
pub mod Joined
pub mod Parts
pub mod ModelLaws
