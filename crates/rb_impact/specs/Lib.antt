-- Read `Impact` first: what a row of an impact holds, answers and encloses. `Sides` has what the rows have to gain, `Pushes` what their impulses put on the
-- columns, and `Speeds` the speeds after.
pub mod Sides
pub mod Pushes
pub mod Speeds
pub mod Impact
