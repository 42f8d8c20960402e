-- Read `Inertia` and `Joint` first: the constants of a body, and what it is for them to enclose the body and the joint relation. `Raw` says which
-- brackets and which kind the numbers of a file stand for, `Faults` how refusals are told, `Laws` what the rule of a body means at fractions.
pub mod Faults
pub mod Raw
pub mod Inertia
pub mod Joint
pub mod Laws
