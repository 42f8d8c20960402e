-- Read `Constraints` first: the rows that constraints have, what each list of them keeps, and what a choice of numbers for them is; `Axes` has the axes
-- that they hold. `File` says which constraints a file says, in the words of the format, and `Refusals` what may be wrong with it, and in which order
-- that is told; `Faults` has the faults. `Laws` says that each file has one answer. `Rows` and `Bias` have
-- what a work holds for rows, and `Encloses` what that encloses. `Read` and `Steps` are scaffolding: how a file is read, line by line, and what the sweeps
-- leave.
pub mod Faults
pub mod Axes
pub mod Constraints
pub mod File
pub mod Refusals
pub mod Read
pub mod Laws
pub mod Rows
pub mod Bias
pub mod Encloses
pub mod Steps
