-- Read `Sweep` first: steps in turn, and what it is for a call to answer so. `Naming` is about values with names, each found by a rule.
-- `Laws` says what sweeps do.
pub mod Sweep
pub mod Naming
pub mod Laws
