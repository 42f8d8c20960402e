-- Read `Profile` first: which robot a list of tags describes, in the words of the format. `Refusals` lists what may be wrong in the
-- order in which it is told, and `Robot` says what contracts see of a robot and what each robot keeps.
-- `Urdf` is how tags are read step by step, with `Links`, `Joints` and `Mimics` for their parts, and `Names` and `Numbers` for attributes. It is
-- scaffolding, since `Laws` says that it is the profile. `Faults` has the faults of kinds at places.
pub mod Faults
pub mod Joints
pub mod Laws
pub mod Links
pub mod Mimics
pub mod Names
pub mod Numbers
pub mod Profile
pub mod Refusals
pub mod Robot
pub mod Urdf
