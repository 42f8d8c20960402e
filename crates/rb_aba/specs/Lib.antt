-- Read `Articulated` first: what the bodies answer, from the leaves to the root. `Accelerations` goes back from the root on, and `Forward` is a whole row:
-- its values, its answer, its refusals and what its values enclose. `Steps` has what the sweeps leave.
pub mod Articulated
pub mod Accelerations
pub mod Steps
pub mod Forward
