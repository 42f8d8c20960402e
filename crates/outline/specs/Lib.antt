-- Read `Run` first: what a run puts, or its fault. `Outline` is the text of a robot's outline, `Reading` the robot that a file's bytes hold, and
-- `Faults` has the lines on standard error.
pub mod Faults
pub mod Reading
pub mod Outline
pub mod Run
