-- Read `Steps` first: the steps of an elimination, and sums. `Coupling` has how the rows of constraints on a table with factors act on one another, and
-- `Elimination` how this coupling is eliminated; `Forces` has the numbers that are found: all three over any numbers, at fractions or at intervals.
-- `Equations` has the bordered equations, and `Laws` says what is known of them.
pub mod Steps
pub mod Coupling
pub mod Elimination
pub mod Forces
pub mod Equations
pub mod Laws
