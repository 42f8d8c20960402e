pub mod EachRow
pub mod Refusals
pub mod Utf8
pub mod Courses
pub mod Going
pub mod Saying
pub mod Meaning
