-- Read `Mass` first: what a row of the mass table holds and answers. `Inertias`, `Entries` and `Table` have the rules of the named values, in the
-- order in which they are found. `Encloses` says what the table encloses. `Steps` is scaffolding: what the sweeps leave.
pub mod Inertias
pub mod Entries
pub mod Table
pub mod Steps
pub mod Mass
pub mod Encloses
