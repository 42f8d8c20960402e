-- Read `Frac` first, which says what a fraction is and when two are the same number, and `Spatial` and `Mechanics`: motions, forces, places and
-- inertias over any numbers, and the formulas that they obey. `Ops`, `Pairs` and `Tables` have sums, vectors, sums of products and tables. `System` is
-- about square systems of equations, and `Laws` says what holds of fractions. `Positive` is scaffolding.
pub mod Positive
pub mod Ops
pub mod Frac
pub mod System
pub mod Pairs
pub mod Tables
pub mod Spatial
pub mod Mechanics
pub mod Laws
