-- Read `Row` first: the state that a line tells, over the fields of the line. `Plain` has the lines that are split at their commas. `Header` says what the fields of a header stand for, over
-- `Columns`, the columns of a robot's states. `Faults` has the faults of fields, and how they are told. `Head` has the lines of names. `Laws` says what headers and rows mean.
pub mod Plain
pub mod Faults
pub mod Columns
pub mod Header
pub mod Row
pub mod Head
pub mod Laws
