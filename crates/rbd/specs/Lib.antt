-- Read `Headline` first, what the lines of a run mean, and `Run`, how a run ends. `Course` is what a run answers and puts: it goes by its `Plan`,
-- what the words ask for, the robot and the constraints that they name, and the rows give the `Inputs`. `Ends` has the status and the line on standard
-- error, `Codes` the exit status. `Stops` and `Desk` are scaffolding: the stops of parts of a run, and the room for one row.
pub mod Plan
pub mod Inputs
pub mod Stops
pub mod Desk
pub mod Course
pub mod Ends
pub mod Codes
pub mod Run
pub mod Headline
