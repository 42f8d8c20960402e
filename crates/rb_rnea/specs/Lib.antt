-- Read `Dynamics` first: what a row of inverse dynamics holds, answers and encloses. `Speeds`, `Accelerations`, `Forces` and `Torques` have the
-- rules of the named values, in the order in which they are found, over the rates of `Rates`. `Steps` is scaffolding: what the sweeps leave.
pub mod Rates
pub mod Speeds
pub mod Accelerations
pub mod Forces
pub mod Torques
pub mod Steps
pub mod Dynamics
