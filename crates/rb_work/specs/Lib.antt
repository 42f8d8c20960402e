-- Read `Path` first, which says what stands in the packed table, then `View`: what a work holds. `Names` has the texts of names and what is
-- refused. `Place` has one place for each name, for laws of calls; `Zeros`, `Tables` and `Inside` are scaffolding.
pub mod Zeros
pub mod Path
pub mod View
pub mod Tables
pub mod Inside
pub mod Names
pub mod Place
