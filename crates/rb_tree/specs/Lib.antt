-- Read `Robot` first: what contracts see of a robot, and what each robot keeps. `Columns` says which columns and entries its bodies have, `Build`
-- what it is to be built from its files, over `Order`, the order of the bodies, `Parts`, the constants of a body, `Groups` and `States`; `Refusals`
-- why it is not built, step by step. `Shape` is the robot as choices see it. `Laws` says that there is one order, one robot or one fault. `Sizes`,
-- `Roots` and `Faults` serve `Order`; `Grow` is scaffolding: a part of the order while it grows; and so are `Steps`, what the sweep over the places
-- leaves, and `GroupMarks`, the bodies of groups while these are made.
pub mod Faults
pub mod Sizes
pub mod Roots
pub mod Order
pub mod Grow
pub mod Columns
pub mod Numbers
pub mod Robot
pub mod Parts
pub mod Groups
pub mod GroupMarks
pub mod States
pub mod Build
pub mod Refusals
pub mod Names
pub mod Shape
pub mod State
pub mod Places
pub mod Steps
pub mod Laws
