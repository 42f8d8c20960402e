-- Read `Profile` first: which semantics a list of tags describes, in the words of the format. `Refusals` says what may be wrong with tags, and the
-- order in which it is told. `Srdf` has what contracts see of semantics and what all of them keep, over `Groups`, which groups hold which.
-- `Read` is how tags are read step by step, over the groups, states and virtual joints of `Parts`, which are read one by one by `ReadGroups`,
-- `ReadStates` and `ReadVirtuals`, and the names of `Names`, `StateNames` and `PartNames`. It is scaffolding, since `Laws` says that it is the profile.
-- `Loops` has the groups by the numbers of those that they hold, and what an answer says of loops among them, and `Reached` what a search for loops
-- finds. `Faults` has the faults of kinds at places.
pub mod Faults
pub mod Groups
pub mod Laws
pub mod Loops
pub mod Names
pub mod PartNames
pub mod Parts
pub mod Profile
pub mod Reached
pub mod Read
pub mod ReadGroups
pub mod ReadStates
pub mod ReadVirtuals
pub mod Refusals
pub mod Srdf
pub mod StateNames
