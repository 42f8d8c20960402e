-- Read `Turns`, `Places`, `Frames` and `Models` first: the rules of the sources of these names, over any numbers, and what it is for a call to
-- enclose them. `Faults` has the words of the faults. `Model` says what it is for a joint model to enclose the joint relation, `Any` what a joint of any model answers, `Laws` what the
-- rules mean at fractions.
pub mod Faults
pub mod Turns
pub mod Places
pub mod Frames
pub mod Model
pub mod Models
pub mod Level
pub mod Any
pub mod Columns
pub mod Laws
