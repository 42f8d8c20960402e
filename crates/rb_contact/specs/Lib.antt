-- Read `Forward` first: what a row of forward dynamics holds, answers and encloses. `Driving` has what the mass table has to give, and `Laws` what its
-- factors say of forward dynamics over exact fractions. `Contact` is the same as `Forward` under rows of constraints.
pub mod Laws
pub mod Driving
pub mod Forward
pub mod Contact
