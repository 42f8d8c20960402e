pub mod Depths
pub mod Lines
pub mod Masses
