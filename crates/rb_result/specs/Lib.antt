-- Read `Steps` first: how steps follow one another, and what a reader gives. `Laws` says that the order of grouping does not matter.
pub mod Steps
pub mod Laws
