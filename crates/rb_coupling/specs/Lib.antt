-- `Steps` has the sums over intervals. `Couple` says what the coupling of rows is and which name is refused first, `Forces` the same of the forces of the
-- rows, and `Laws` that there is one answer, and what it encloses. `Sweeps` is what the code does, in its order.
pub mod Steps
pub mod Couple
pub mod Forces
pub mod Laws
pub mod Sweeps
