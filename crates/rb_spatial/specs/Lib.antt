-- Read `Motions`, `Inertias` and `Carrying` first: the rules of `src/motions.rt`, `src/inertias.rt` and `src/carrying.rt`, over any numbers, and
-- what it is for a call to enclose them; `Laws` says what the rules mean at fractions. `Vectors` is scaffolding: how the code keeps vectors.
pub mod Encloses
pub mod Vectors
pub mod Motions
pub mod Inertias
pub mod Carrying
pub mod Laws
