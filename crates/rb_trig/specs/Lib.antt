-- Read the ends of Sine and of Axis first: what the results enclose (`Encloses`) and what a factor does (`MakesUnit`). Above these stand the
-- values that the code computes, and they and Ends, the steps that both are made of, are scaffolding: the two statements do not need them.
pub mod Ends
pub mod Sine
pub mod Axis
pub mod Short
