pub mod Numbers
pub mod Taken
pub mod Pairs
pub mod Upper
pub mod Enclosing
pub mod Means
pub mod Answering
pub mod Answered
