-- `Steps` has the steps of an elimination over intervals. `Factor` says what a factored table is and which entry is refused first, and `Solve` the same
-- of the steps of a solution. `Laws` says that there is one answer, and what it encloses. `Sweeps` is what the code does, in its order.
pub mod Steps
pub mod Factor
pub mod Solve
pub mod Laws
pub mod Sweeps
