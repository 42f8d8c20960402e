-- Read `Articulated` first: what the articulated-body algorithm computes, over exact fractions. `Laws` says that it solves the equations of motion.
pub mod Rules
pub mod Articulated
pub mod Laws
