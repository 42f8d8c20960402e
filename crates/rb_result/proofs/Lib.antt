pub mod Placing
pub mod Results
