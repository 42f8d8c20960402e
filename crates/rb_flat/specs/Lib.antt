-- Read `Joint` and `Body` first: what a choice of numbers gives a joint and a link. `Turns` has the rotations that they are made of, `Shape` the
-- tree without numbers, `Choice` what a choice for a robot and a state is, and that there is one, and `Mechanism` the tree in numbers that it
-- gives. `Dynamics` has the equations of motion, `Contact` those of rows of constraints, `Impact` those of an impact. `Laws` says what is known of
-- turns, joints and inertias, `Rates` that the columns of a joint are its rates and accelerations those of speeds, and `TreeLaws` what is known of
-- the equations of a tree.
pub mod Turns
pub mod Joint
pub mod Body
pub mod Shape
pub mod Choice
pub mod Mechanism
pub mod Dynamics
pub mod Contact
pub mod Impact
pub mod Rates
pub mod TreeLaws
pub mod Laws
