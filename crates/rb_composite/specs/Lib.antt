-- Read `Composite` first: what the composite rigid body algorithm computes, over exact fractions. `Laws` says that it is the mass table.
pub mod Composite
pub mod Laws
